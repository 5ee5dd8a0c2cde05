use Rattle.std.proofs.Common.{◌≡◌, ◌≤◌, ◌-◌, length, drop}
use Rattle.import_lines.specs.Made.{with_makings}
use Rattle.import_lines.proofs.made.add_makings.Given as goal

abbrev pub invariant-tellings : goal.invariant-tellings
invariant-tellings l =
    let all = l.lines in
    record {
      within : l.at ≤ length l.tellings;
      made : with_makings all l.made (drop l.at l.tellings) ≡ with_makings all l.initial.made l.tellings;
    }

abbrev pub decreases-tellings : goal.decreases-tellings
decreases-tellings l = length l.tellings - l.at
