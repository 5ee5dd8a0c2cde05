use Rattle.machine_model.proofs.Words.{inr, IfOk-weaker, on_err_weaker}
use Rattle.machine_model.specs.declared.event.Outcome.TheVariants.{Stepped}
use Rattle.core_steps.proofs.Reached.{legal}
use Rattle.core_steps.proofs.machine.Machine.call.Goals as goal

pub invariant_of-self : goal.invariant_of-self
invariant_of-self g c = record { reached = c.start.ensures.reached }

pub returns-in-Ended-clause-legal : goal.returns-in-Ended-clause-legal
returns-in-Ended-clause-legal g c = legal _ c.start.ensures.reached

pub returns-in-Begun-clause-divides : goal.returns-in-Begun-clause-divides
returns-in-Begun-clause-divides g c =
    let begun = c.in-Begun.ensures.divides in inr (begun.0, begun.1, c.go_on.ensures.divides begun.0 begun.2)

pub returns-in-Begun-clause-ends : goal.returns-in-Begun-clause-ends
returns-in-Begun-clause-ends g c =
    let begun = c.in-Begun.ensures.starts.1 in
    IfOk-weaker c.go_on.result _ _ (λ f h. (Stepped, begun.0, begun.1, h begun.0 begun.2)) c.go_on.ensures.ends

pub returns-in-Begun-clause-err : goal.returns-in-Begun-clause-err
returns-in-Begun-clause-err g c =
    let begun = c.in-Begun.ensures.starts.1 in on_err_weaker c.go_on.result (λ h. (begun.0, begun.1, h begun.0 begun.2)) c.go_on.ensures.err
