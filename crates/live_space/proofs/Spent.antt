-- What becomes of a frame that a call took
use Rattle.std.proofs.Common.{◌≡◌, inl, inr, ℕ, Option, None, Some, refl, sym, subst}
use Rattle.std.specs.Prelude.{IfSome}
use Rattle.slot_lock.specs.declared.plan.Touch.{Touch}
use Rattle.machine_model.specs.Files.{back_of}
use Rattle.live_levels.specs.declared.act.Act.TheVariants.{Frame, Copy}
use Rattle.live_tree.specs.Held.{HeldView}
use Rattle.live_tree.specs.Shown.{shown}
use Rattle.live_pages.specs.Frames.{MayGet}
use Rattle.live_pages.specs.Steps.{StepsWith}
use Rattle.seats.specs.Notes.{SeatView}
use Rattle.live_space.specs.declared.ending.Ending.{Ending}
use Rattle.live_space.specs.declared.ending.Ending.TheVariants.{GiveUp}
use Rattle.live_space.specs.Spending.{GivesOnly, Spends, UsesCopy, UsesFrame}
use Rattle.live_space.proofs.Faulted.{gets}

-- ---- what becomes of it

pub given_back : (own : Option ℕ) (Used : Type 0) (ending : Ending) → GivesOnly own ending → Spends own Used (Some ending)
given_back None Used ending is = subst (λ (e : Ending). Spends None Used (Some e)) (sym is) (inl refl)
given_back (Some frame) Used ending is = subst (λ (e : Ending). Spends (Some frame) Used (Some e)) (sym is) refl

pub was_used : (own : Option ℕ) (Used : Type 0) (o : Option Ending) → Used → IfSome o (λ ending. ending ≡ GiveUp) → Spends own Used o
was_used own Used None used is = used
was_used own Used (Some ending) used is = subst (λ (e : Ending). Spends own Used (Some e)) (sym is) (inr used)

pub used_frame : (own : Option ℕ) (touch : Touch) (frame : ℕ) (s t : SeatView) (h k : HeldView)
    → MayGet own (back_of ((shown h.slots).info touch.page)) touch.access frame → StepsWith (Frame frame) s h t k → UsesFrame own touch h
used_frame own touch frame s t h k may w = (frame, may, (k, gets (Frame frame) s t h k w))

pub used_copy : (own : ℕ) (s t : SeatView) (h k : HeldView) → StepsWith (Copy own) s h t k → UsesCopy own h
used_copy own s t h k w = (k, gets (Copy own) s t h k w)
