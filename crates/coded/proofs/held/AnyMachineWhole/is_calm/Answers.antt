use Rattle.std.proofs.Common.{◌≡◌, false, subst, sym}
use Rattle.machine_model.specs.Alone.{IsCalm}
use Rattle.coded.specs.declared.held.AnyMachine.{AnyMachine}
use Rattle.coded.specs.Holding.{held_state}
use Rattle.coded.proofs.held.AnyMachineWhole.is_calm.Goals as goal

pub returns-in-Plain-clause-busy : goal.returns-in-Plain-clause-busy
returns-in-Plain-clause-busy c =
    subst (λ (h : AnyMachine). c.is_calm.result ≡ false → IsCalm (held_state h).world → ⊥) (sym c.in-Plain.is) c.is_calm.ensures.busy

pub returns-in-Logged-clause-busy : goal.returns-in-Logged-clause-busy
returns-in-Logged-clause-busy c =
    subst (λ (h : AnyMachine). c.is_calm-in-Logged.result ≡ false → IsCalm (held_state h).world → ⊥) (sym c.in-Logged.is) c.is_calm-in-Logged.ensures.busy
