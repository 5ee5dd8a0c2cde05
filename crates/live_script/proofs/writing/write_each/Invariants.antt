use Rattle.machine_model.proofs.Words.{length, take, ◌-◌, ◌≡◌, ◌≤◌, flat_map, Appends}
use Rattle.live_script.specs.Text.{call_text}
use Rattle.live_script.proofs.writing.write_each.Given as goal

-- the lines of the first calls were written
abbrev pub invariant-calls : goal.invariant-calls
invariant-calls g l = record {
  within : l.at ≤ length l.calls;
  written : Appends (g.W.Sink.contents l.initial.writer) (g.W.Sink.contents l.writer) (flat_map call_text (take l.at l.calls));
  kept : g.W.Sink.failed l.writer ≡ g.W.Sink.failed l.initial.writer;
}

abbrev pub decreases-calls : goal.decreases-calls
decreases-calls g l = length l.calls - l.at
