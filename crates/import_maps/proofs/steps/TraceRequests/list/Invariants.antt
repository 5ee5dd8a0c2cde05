use Rattle.std.proofs.Common.{◌≡◌, ◌≤◌, ◌++◌, length}
use Rattle.import_maps.specs.Steps.{steps_kept, widths}
use Rattle.import_maps.proofs.steps.TraceRequests.list.Given as goal

-- what was listed, and the others
abbrev pub invariant-steps : goal.invariant-steps
invariant-steps l = record {
  whole : widths l.heads ≤ length l.numbers;
  listed : l.all.items ++ steps_kept l.heads l.numbers ≡ l.self;
}

abbrev pub decreases-steps : goal.decreases-steps
decreases-steps l = length l.heads
