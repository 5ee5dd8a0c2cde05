use Rattle.machine_model.proofs.Words.{length, take, ◌-◌, ◌≡◌, ◌≤◌, flat_map, Appends}
use Rattle.shared_script.specs.Texts.{told_line}
use Rattle.shared_script.proofs.writing.write_core.Given as goal

-- the lines of the first calls were written
abbrev pub invariant-calls : goal.invariant-calls
invariant-calls g l = record {
  within : l.at ≤ length l.told;
  written : Appends (g.W.Sink.contents l.initial.writer) (g.W.Sink.contents l.writer) (flat_map (told_line l.core) (take l.at l.told));
  kept : g.W.Sink.failed l.writer ≡ g.W.Sink.failed l.initial.writer;
}

abbrev pub decreases-calls : goal.decreases-calls
decreases-calls g l = length l.told - l.at
