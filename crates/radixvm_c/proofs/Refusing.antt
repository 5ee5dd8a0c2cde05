-- Why a machine isn't shared, as C reads it, and how it comes back
use Rattle.std.proofs.Common.{◌≡◌, ℕ, refl, sym, subst, inl, inr}
use Rattle.std.specs.Prelude.{Option, None, Some}
use Rattle.coded.specs.declared.held.AnyMachine.{AnyMachine}
use Rattle.coded.specs.Holding.{held_state}
use Rattle.shared.specs.declared.space.ShareFault.{ShareFault}
use Rattle.shared.specs.declared.space.ShareFault.TheVariants as Why
use Rattle.shared.specs.Cores.{Agrees, IsKept}
use Rattle.radixvm_c.specs.declared.chair.Chair.{Chair}
use Rattle.radixvm_c.specs.declared.placed.Placed.{Placed}
use Rattle.radixvm_c.specs.declared.sharing.Closed.TheVariants as Comes
use Rattle.radixvm_c.specs.Seats.{CannotShare, ClosesChair, HasBack, TellsUnshare, View, placed_state, unshared_code}

pub cannot_share : (held : AnyMachine) (why : ShareFault) (status : ℕ) → IsKept why (held_state held).world → status ≡ unshared_code why → CannotShare held status
cannot_share held why status kept is = subst (CannotShare held) (sym is) (by why kept)
  where
    by : (why : ShareFault) → IsKept why (held_state held).world → CannotShare held (unshared_code why)
    by Why.NoMemory k = inl refl
    by Why.NotCalm k = inr (refl, k)

has_back : (v : View) (placed : Placed) (held : Option AnyMachine) → Agrees placed_state placed v → held ≡ Some placed.held.value → HasBack v held
has_back v placed held a e = subst (HasBack v) (sym e) (placed, refl, a)

-- the machine of a seat came back, and goes into an empty handle
pub tells_back : (seat : Option View) (was : Option AnyMachine) (placed : Placed) (left : Option View) (chair : Option Chair) (held : Option AnyMachine)
    → was ≡ None → ClosesChair seat (Comes.Back placed.held) left → chair ≡ None → held ≡ Some placed.held.value → TellsUnshare seat was 0 chair held
tells_back None was placed left chair held none (other, _) empty is = absurd cc
tells_back (Some v) was placed left chair held none (back, _) empty is =
    subst (λ x. TellsUnshare (Some v) x 0 chair held) (sym none) (inl (refl, empty, has_back v (record { held = placed.held }) held back is))
