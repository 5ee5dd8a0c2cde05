use Rattle.std.proofs.Common.{◌^◌}
use Rattle.certifier.proofs.Chained.{in_order}
use Rattle.certifier.proofs.certifying.slots_of.Goals as goal

pub returns-in-Some-clause-order : goal.returns-in-Some-clause-order
returns-in-Some-clause-order g c = in_order 0 (2 ^ 36) c.slots.result.now c.slots.ensures.chain
