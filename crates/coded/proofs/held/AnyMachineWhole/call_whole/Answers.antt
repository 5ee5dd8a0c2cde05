use Rattle.std.proofs.Common.{subst}
use Rattle.machine_model.specs.Alone.{IsCalm}
use Rattle.coded.specs.declared.held.AnyMachine.{AnyMachine}
use Rattle.coded.specs.Holding.{held_state}
use Rattle.coded.proofs.held.AnyMachineWhole.call_whole.Goals as goal

pub call_whole-requires-clause-calm : goal.call_whole-requires-clause-calm
call_whole-requires-clause-calm c =
    subst (λ (h : AnyMachine). IsCalm (held_state h).world) c.in-Plain.is c.requires.calm

pub call_whole-requires-in-Logged-clause-calm : goal.call_whole-requires-in-Logged-clause-calm
call_whole-requires-in-Logged-clause-calm c =
    subst (λ (h : AnyMachine). IsCalm (held_state h).world) c.in-Logged.is c.requires.calm
