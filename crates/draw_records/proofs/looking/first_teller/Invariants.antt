use Rattle.std.proofs.Common.{◌≡◌}
use Rattle.core_steps.specs.Machine.{state}
use Rattle.draw_records.specs.Looking.{first_teller}
use Rattle.draw_records.proofs.looking.first_teller.Given as goal

abbrev pub invariant-cores : goal.invariant-cores
invariant-cores g l = record { first : l.first ≡ first_teller (state l.machine) l.told l.core l.index }
