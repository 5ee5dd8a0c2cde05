use Rattle.vm_base.proofs.Functions.{eq_true}
use Rattle.bench_parts.proofs.Locked.{one_locked}
use Rattle.bench_parts.proofs.slots.lock.Goals as goal

pub returns : goal.returns
returns g c = λ is. one_locked _ _ c.args.core c.args.page _ c.requires c.lock_run.ensures.locks (eq_true _ _ is)
