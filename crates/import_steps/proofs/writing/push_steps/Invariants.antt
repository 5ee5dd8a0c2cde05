use Rattle.std.proofs.Common.{◌≡◌, ◌≤◌, ◌++◌, length}
use Rattle.std.specs.List.{flat_map}
use Rattle.import_maps.specs.Steps.{steps_kept, widths}
use Rattle.import_steps.specs.Texts.{step_text}
use Rattle.import_steps.proofs.writing.push_steps.Given as goal

-- what was written, and the lines of the others
abbrev pub invariant-steps : goal.invariant-steps
invariant-steps l = record {
  whole : widths l.heads ≤ length l.numbers;
  written : l.all.items ++ flat_map (step_text l.names) (steps_kept l.heads l.numbers) ≡ l.initial.all.items ++ flat_map (step_text l.names) l.steps;
}

abbrev pub decreases-steps : goal.decreases-steps
decreases-steps l = length l.heads
