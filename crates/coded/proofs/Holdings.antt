-- What is said of a handle
use Rattle.machine_model.proofs.Words.{◌≡◌, false, refl, is_some}
use Rattle.std.specs.Prelude.{Option, None, Some}
use Rattle.core_steps.specs.Machine.{IsLegal}
use Rattle.core_steps.proofs.Reached.{legal}
use Rattle.coded.specs.declared.held.AnyMachine.{AnyMachine}
use Rattle.coded.specs.declared.held.AnyMachine.TheVariants.{Plain, Logged}
use Rattle.coded.specs.Holding.{held_state}

pub is_none_in : (v : Option AnyMachine) → is_some v ≡ false → v ≡ None
is_none_in None e = refl
is_none_in (Some x) e = absurd cc

pub held_legal : (held : AnyMachine) → IsLegal (held_state held).world
held_legal (Plain machine) = legal _ machine.reached
held_legal (Logged machine) = legal _ machine.reached
