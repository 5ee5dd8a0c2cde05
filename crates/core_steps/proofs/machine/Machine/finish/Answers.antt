use Rattle.core_steps.specs.State.{world}
use Rattle.machine_model.proofs.Words.{refl, IfOk-weaker, on_err_weaker}
use Rattle.core_steps.proofs.machine.Machine.finish.Goals as goal

pub returns-clause-ends : goal.returns-clause-ends
returns-clause-ends g c =
    IfOk-weaker c.go_on.result _ _ (λ f h. h (world g.M.SlotRead.slots c.args.self.now.engine) refl) c.go_on.ensures.ends

pub returns-clause-err : goal.returns-clause-err
returns-clause-err g c =
    on_err_weaker c.go_on.result (λ h. h (world g.M.SlotRead.slots c.args.self.now.engine) refl) c.go_on.ensures.err

pub returns-clause-divides : goal.returns-clause-divides
returns-clause-divides g c = c.go_on.ensures.divides (world g.M.SlotRead.slots c.args.self.now.engine) refl
