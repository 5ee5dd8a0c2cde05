use Rattle.std.proofs.Common.{◌≡◌, ◌-◌, ◌^◌}
use Rattle.trace.proofs.MapsLemmas.{HasListed}
use Rattle.trace.proofs.shown.write_maps.Given as goal

-- the mappings before this page were written, and no write failed
abbrev pub invariant-lines : goal.invariant-lines
invariant-lines g l = record {
  has : HasListed (g.R.Staged.stage l.replayer) l.from (g.W.Sink.contents l.initial.writer) (g.W.Sink.contents l.writer);
  kept : g.W.Sink.failed l.writer ≡ g.W.Sink.failed l.initial.writer;
}

abbrev pub decreases-lines : goal.decreases-lines
decreases-lines g l = 2 ^ 35 - l.from
