use Rattle.std.proofs.Common.{◌≡◌, ◌+◌, ◌*◌, ◌^◌, ◌≤◌, length, true}
use Rattle.trace_io.specs.Source.{Reads}
use Rattle.trace_io.specs.Window.{left, budget}
use Rattle.machine_model.specs.declared.setup.CallLimit.{CallLimit}
use Rattle.trace.specs.Numbered.{texts_of}
use Rattle.trace.specs.Shown.{log_at}
use Rattle.trace.specs.Stage.{Start}
use Rattle.trace.specs.Turns.{scene}
use Rattle.trace.proofs.EchoLemmas.{HasEchoed}
use Rattle.trace.proofs.echo.echo_lines.Given as goal

-- each line took a byte, the lines so far were shown with what stands below them, and no write failed
abbrev pub invariant-lines : goal.invariant-lines
invariant-lines g l = record {
  budget : l.number + budget (g.S.Source.reads l.reader) l.lines ≤ 65536 * 2 ^ 32;
  kept : g.W.Sink.failed l.writer ≡ g.W.Sink.failed l.initial.writer;
  wanted : l.replay.asks.is_wanted ≡ l.initial.replay.asks.is_wanted;
  told : (limit : CallLimit) → g.R.Staged.stage l.initial.replay.replayer ≡ Start limit → l.replay.asks.is_wanted ≡ true
      → l.shown ≡ length (log_at (g.R.Staged.stage l.replay.replayer));
  ran : (limit : CallLimit) → g.R.Staged.stage l.initial.replay.replayer ≡ Start limit
      → Reads (g.S.Source.stream l.initial.reader) (g.S.Source.stream l.reader)
      (λ input unread. HasEchoed l.fn.coloured l.initial.replay.asks.is_wanted (texts_of l.texts) limit input (g.W.Sink.contents l.initial.writer)
      (scene (left unread l.lines) unread (g.R.Staged.stage l.replay.replayer) (g.W.Sink.contents l.writer)) l.replay.asks l.number);
}

abbrev pub decreases-lines : goal.decreases-lines
decreases-lines g l = budget (g.S.Source.reads l.reader) l.lines
