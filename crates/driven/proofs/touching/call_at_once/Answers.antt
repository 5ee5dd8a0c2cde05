use Rattle.machine_model.proofs.Words.{subst}
use Rattle.core_steps.specs.Finishing.{Calls}
use Rattle.core_steps.specs.State.{world}
use Rattle.driven.proofs.Served.{served_last, served_stuck, served_refused}
use Rattle.driven.proofs.touching.call_at_once.Goals as goal

pub returns-in-Ok-Last : goal.returns-in-Ok-Last
returns-in-Ok-Last g c =
    let w = world g.M.SlotRead.slots c.args.machine.now.engine in
    let v = world g.M.SlotRead.slots c.call.new.self.engine in
    served_last g.L.Ledger.keeps w v c.args.core c.args.request c.in-Ok-Last.outcome c.args.machine.now.reached c.requires
    (subst (λ f. Calls w c.args.core c.args.request f v) c.in-Ok-Last.field-0-is c.in-Ok-Last.ensures.ends)

pub returns-in-Ok-Stuck : goal.returns-in-Ok-Stuck
returns-in-Ok-Stuck g c =
    let w = world g.M.SlotRead.slots c.args.machine.now.engine in
    let v = world g.M.SlotRead.slots c.call.new.self.engine in
    served_stuck g.L.Ledger.keeps w v c.args.core c.args.request c.args.machine.now.reached c.requires
    (subst (λ f. Calls w c.args.core c.args.request f v) c.in-Ok-Stuck.field-0-is c.in-Ok-Stuck.ensures.ends)

pub returns-in-Err : goal.returns-in-Err
returns-in-Err g c =
    served_refused g.L.Ledger.keeps (world g.M.SlotRead.slots c.args.machine.now.engine) (world g.M.SlotRead.slots c.call.new.self.engine)
    c.args.core c.args.request c.in-Err.refused c.args.machine.now.reached c.requires c.in-Err.ensures.err
