use Rattle.std.proofs.Common.{rules}
use Rattle.shared.proofs.Halting.{halts_first, halts_last, halts_next}
use Rattle.shared.proofs.calling.take_all.Goals as goal

pub cores-init : goal.cores-init
cores-init g c = record { halts = halts_first _ _ c.args.core c.awaited-awaited.ensures }

pub cores-preserved : goal.cores-preserved
cores-preserved g c = record { halts = halts_next _ _ _ _ _ c.args.core _ c.new-other.ensures c.cores.invariant.halts c.take_twice.ensures.takes }

pub returns : goal.returns
returns g c = record { lets_go = halts_last _ _ _ c.args.core _ (search rules) c.cores.invariant.halts }
