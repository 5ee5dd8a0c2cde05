use Rattle.machine_model.proofs.Words.{◌∙◌, ap, refl}
use Rattle.machine_model.specs.declared.phase.Phase.TheVariants.{Lock}
use Rattle.slot_lock.specs.declared.plan.Goal.TheVariants as To
use Rattle.core_steps.proofs.rows.Known.{only_page}
use Rattle.core_steps.proofs.engine.Engine.lock_at_once.Goals as goal

pub fault_at_once-requires-clause-at : goal.fault_at_once-requires-clause-at
fault_at_once-requires-clause-at g c =
    let i = rw c.in-Access.is at c.requires.at in
    i.phase ∙ ap (Lock (To.Access c.in-Access.touch)) (only_page _ c.args.core (To.Access c.in-Access.touch) c.args.cursor i refl)
