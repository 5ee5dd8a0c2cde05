-- What a call did, seen from its end
use Rattle.std.proofs.Common.{◌≡◌, ◌⊎◌, ◌∙◌, ◌++◌, ◌∷◌, [], ℕ, List, Option, inl, inr, refl, ap, sym, subst, append_assoc, append-nil}
use Rattle.vm_base.specs.Plain.{File}
use Rattle.vm_base.specs.declared.replies.Reply.{Reply}
use Rattle.vm_base.specs.declared.replies.Reply.TheVariants.{NoMemory}
use Rattle.slot_lock.specs.declared.plan.Plan.{Plan}
use Rattle.slot_lock.specs.declared.plan.Plan.TheVariants as PlanOf
use Rattle.slot_lock.specs.declared.plan.Touch.{Touch}
use Rattle.live_tree.specs.Held.{HeldView}
use Rattle.seats.specs.Notes.{SeatView}
use Rattle.live_pages.specs.Ending.{Ends}
use Rattle.live_space.specs.declared.ending.Ending.{Ending}
use Rattle.live_space.specs.declared.ending.Ending.TheVariants.{Answer, GiveUp, GiveBack}
use Rattle.live_space.specs.declared.ending.Ran.{Ran}
use Rattle.live_space.specs.declared.ending.Ran.TheVariants.{Answered, Open}
use Rattle.live_space.specs.Doing.{Did, Does, Done, IsTouch}
use Rattle.seats.specs.declared.noted.Noted.{Noted}
use Rattle.live_space.specs.Endings.{reply_of}
use Rattle.live_space.specs.Planned.{EndsIn}

-- of an access nothing is said
pub touch_did : (files : ℕ → Option File) (touch : Touch) (ran : Ran) (t : SeatView) (k : HeldView) → Did files (PlanOf.Touch touch) ran t k
touch_did files touch (Answered reply) t k = tt
touch_did files touch (Open (Answer reply)) t k = tt
touch_did files touch (Open GiveUp) t k = tt
touch_did files touch (Open (GiveBack own)) t k = tt

pub touch_done : (files : ℕ → Option File) (plan : Plan) (t : SeatView) (reply : Reply) → IsTouch plan → Done files plan t reply
touch_done files (PlanOf.Change change) t reply h = absurd h
touch_done files (PlanOf.Place place) t reply h = absurd h
touch_done files (PlanOf.Touch touch) t reply h = record {
  seat = t;
  held = record { first = 0; end = 0; slots = [] };
  later = [];
  notes = sym (append-nil t.notes);
  does = tt;
}

pub answered_did : (files : ℕ → Option File) (plan : Plan) (ran : Ran) (reply : Reply) (t : SeatView) (k : HeldView) → Did files plan ran t k
    → ran ≡ Answered reply → IsTouch plan
answered_did files plan ran reply t k h is = subst (λ (r : Ran). Did files plan r t k) is h

-- ---- notes that go on

abbrev GoesOnFrom : SeatView → SeatView → Type 0
GoesOnFrom s t = (more : List Noted) × (t.notes ≡ s.notes ++ more)

on_trans : (s t u : SeatView) → GoesOnFrom s t → GoesOnFrom t u → GoesOnFrom s u
on_trans s t u h k = (h.0 ++ k.0, k.1 ∙ (ap (λ l. l ++ k.0) h.1 ∙ append_assoc s.notes h.0 k.0))

ends_on : (s t : SeatView) (reply : Reply) → Ends s reply t → GoesOnFrom s t
ends_on s t reply e =
    let f = e.finishes in
    on_trans s e.before t (e.grew.more, e.grew.are)
    (on_trans e.before e.given t (e.gives.given, e.gives.are)
    (on_trans e.given f.before t (f.grew.more, f.grew.are) (_, ap (λ (v : SeatView). v.notes) f.answers.1)))

-- a call that is ended so
pub ended_done : (files : ℕ → Option File) (plan : Plan) (ran : Ran) (ending : Ending) (s t : SeatView) (k : HeldView) → Did files plan ran s k
    → ran ≡ Open ending → Ends s (reply_of ending) t → (reply_of ending ≡ NoMemory) ⊎ Done files plan t (reply_of ending)
ended_done files plan ran ending s t k did is e =
    by ending (subst (λ (r : Ran). Did files plan r s k) is did) (ends_on s t (reply_of ending) e)
  where
    by : (ending : Ending) → EndsIn (Does files plan s k) ending → GoesOnFrom s t → (reply_of ending ≡ NoMemory) ⊎ Done files plan t (reply_of ending)
    by (Answer reply) does on = inr (record { seat = s; held = k; later = on.0; notes = on.1; does = does })
    by GiveUp does on = inl refl
    by (GiveBack own) does on = inl refl
