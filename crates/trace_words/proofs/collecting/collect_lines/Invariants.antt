use Rattle.std.proofs.Common.{◌≡◌, ◌+◌, ◌*◌, ◌^◌, ◌≤◌}
use Rattle.trace_io.specs.Source.{Reads}
use Rattle.trace_io.specs.Window.{left, budget}
use Rattle.trace_words.proofs.CollectLemmas.{HasCollected}
use Rattle.trace_words.proofs.collecting.collect_lines.Given as goal

-- each line took a byte, and the lines so far were taken
abbrev pub invariant-lines : goal.invariant-lines
invariant-lines g l = record {
  budget : l.number + budget (g.S.Source.reads l.reader) l.lines ≤ 65536 * 2 ^ 32;
  ran : Reads (g.S.Source.stream l.initial.reader) (g.S.Source.stream l.reader) (λ input unread. HasCollected g.L.LineOf.needs_calls g.L.LineOf.names input
      (record {
        left = left unread l.lines;
        unread = unread;
        collected = l.collector;
      }) l.number);
}

abbrev pub decreases-lines : goal.decreases-lines
decreases-lines g l = budget (g.S.Source.reads l.reader) l.lines
