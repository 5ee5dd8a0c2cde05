use Rattle.std.proofs.Common.{subst, sym}
use Rattle.machine_model.specs.Alone.{IsCalm}
use Rattle.core_steps.specs.Machine.{state}
use Rattle.shared.specs.Histories.{StepsAside, event_of}
use Rattle.coded.specs.declared.held.AnyMachine.{AnyMachine}
use Rattle.coded.specs.Holding.{held_state}
use Rattle.coded.proofs.held.AnyMachineWhole.step_aside.Goals as goal

pub step_aside-requires : goal.step_aside-requires
step_aside-requires c =
    record { calm = subst (λ (h : AnyMachine). IsCalm (held_state h).world) c.in-Plain.is c.requires.calm }

pub step_aside-requires-in-Logged : goal.step_aside-requires-in-Logged
step_aside-requires-in-Logged c =
    record { calm = subst (λ (h : AnyMachine). IsCalm (held_state h).world) c.in-Logged.is c.requires.calm }

pub returns-in-Plain-clause-steps : goal.returns-in-Plain-clause-steps
returns-in-Plain-clause-steps c =
    subst (λ (h : AnyMachine). StepsAside (held_state h).world (event_of c.args.core c.args.aside) c.step_aside.result (state c.step_aside.new.self))
    (sym c.in-Plain.is) c.step_aside.ensures.steps

pub returns-in-Logged-clause-steps : goal.returns-in-Logged-clause-steps
returns-in-Logged-clause-steps c =
    subst (λ (h : AnyMachine). StepsAside (held_state h).world (event_of c.args.core c.args.aside) c.step_aside-in-Logged.result
    (state c.step_aside-in-Logged.new.self)) (sym c.in-Logged.is) c.step_aside-in-Logged.ensures.steps
