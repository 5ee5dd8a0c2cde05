use Rattle.shared.proofs.Halting.{takes_past}
use Rattle.shared.proofs.calling.take_twice.Goals as goal

pub returns : goal.returns
returns g c = record { takes = takes_past c.args.awaited c.args.other _ _ _ c.args.core _ _ c.step-tables.ensures.step c.step-tlb.ensures.step }
