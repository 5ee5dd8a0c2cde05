use Rattle.std.proofs.Common.{◌≡◌, ◌≤◌, length}
use Rattle.import_maps.specs.Ranges.{changed_all}
use Rattle.import_maps.specs.Steps.{steps_kept, widths}
use Rattle.import_maps.proofs.steps.changed_by_all.Given as goal

-- what is mapped so far, and what the others change of that
abbrev pub invariant-steps : goal.invariant-steps
invariant-steps l = record {
  whole : widths l.heads ≤ length l.numbers;
  same : changed_all l.all.items (steps_kept l.heads l.numbers) ≡ changed_all l.ranges (steps_kept l.initial.heads l.initial.numbers);
}

abbrev pub decreases-steps : goal.decreases-steps
decreases-steps l = length l.heads
