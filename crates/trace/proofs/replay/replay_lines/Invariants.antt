use Rattle.std.proofs.Common.{◌≡◌, ◌+◌, ◌*◌, ◌^◌, ◌≤◌}
use Rattle.trace_io.specs.Source.{Reads}
use Rattle.trace_io.specs.Window.{left, budget}
use Rattle.machine_model.specs.declared.setup.CallLimit.{CallLimit}
use Rattle.trace.specs.Stage.{Start}
use Rattle.trace.specs.Turns.{scene}
use Rattle.trace.proofs.RunLemmas.{HasRun}
use Rattle.trace.proofs.Seeing.{HasSeen}
use Rattle.trace.proofs.replay.replay_lines.Given as goal

-- each line took a byte, the lines so far were acted on and seen, and no write failed
abbrev pub invariant-lines : goal.invariant-lines
invariant-lines g l = record {
  budget : l.number + budget (g.S.Source.reads l.reader) l.lines ≤ 65536 * 2 ^ 32;
  kept : g.W.Sink.failed l.writer ≡ g.W.Sink.failed l.initial.writer;
  ran : (limit : CallLimit) → g.R.Staged.stage l.initial.replayer ≡ Start limit → Reads (g.S.Source.stream l.initial.reader) (g.S.Source.stream l.reader)
      (λ input unread. HasRun limit l.fn.show input (g.W.Sink.contents l.initial.writer)
      (scene (left unread l.lines) unread (g.R.Staged.stage l.replayer) (g.W.Sink.contents l.writer)) l.number);
  seen : Reads (g.S.Source.stream l.initial.reader) (g.S.Source.stream l.reader)
      (λ input unread. HasSeen (g.R.Staged.saw l.initial.replayer l.replayer) l.fn.show input (g.W.Sink.contents l.initial.writer)
      (scene (left unread l.lines) unread (g.R.Staged.stage l.replayer) (g.W.Sink.contents l.writer)));
}

abbrev pub decreases-lines : goal.decreases-lines
decreases-lines g l = budget (g.S.Source.reads l.reader) l.lines
