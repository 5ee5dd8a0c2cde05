use Rattle.machine_model.proofs.Words.{length, take, ◌-◌, ◌≡◌, ◌≤◌, Appends}
use Rattle.std.proofs.Common.{map}
use Rattle.shared_script.specs.Texts.{told_lines}
use Rattle.shared_script.proofs.writing.write_cores.Given as goal

-- the lines of the first cores were written
abbrev pub invariant-cores : goal.invariant-cores
invariant-cores g l = record {
  within : l.core ≤ length l.told;
  written : Appends (g.W.Sink.contents l.initial.writer) (g.W.Sink.contents l.writer) (told_lines 0 (take l.core (map (λ told. told.items) l.told)));
  kept : g.W.Sink.failed l.writer ≡ g.W.Sink.failed l.initial.writer;
}

abbrev pub decreases-cores : goal.decreases-cores
decreases-cores g l = length l.told - l.core
