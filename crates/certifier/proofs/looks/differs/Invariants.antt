use Rattle.std.proofs.Common.{◌-◌, ◌^◌}
use Rattle.core_steps.specs.Machine.{state}
use Rattle.certifier.proofs.Walking.{SameBelow}
use Rattle.certifier.proofs.looks.differs.Given as goal

-- the slot's valid pages below this one have what goes on from the content
abbrev pub invariant-slots : goal.invariant-slots
invariant-slots g l = SameBelow (state l.machine).slots l.slot l.content l.page

abbrev pub decreases-slots : goal.decreases-slots
decreases-slots g l = 2 ^ 35 - l.page
