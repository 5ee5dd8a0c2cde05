use Rattle.machine_model.proofs.Words.{length, take, ◌-◌, ◌≡◌, ◌≤◌, flat_map, Appends}
use Rattle.shared_script.specs.Texts.{entry_line}
use Rattle.shared_script.proofs.writing.write_log.Given as goal

-- the lines of the first entries were written
abbrev pub invariant-entries : goal.invariant-entries
invariant-entries g l = record {
  within : l.at ≤ length l.entries;
  written : Appends (g.W.Sink.contents l.initial.writer) (g.W.Sink.contents l.writer) (flat_map (entry_line l.requests) (take l.at l.entries));
  kept : g.W.Sink.failed l.writer ≡ g.W.Sink.failed l.initial.writer;
}

abbrev pub decreases-entries : goal.decreases-entries
decreases-entries g l = length l.entries - l.at
