-- What becomes of the page of an access
use Rattle.std.proofs.Common.{◌≡◌, ◌∙◌, ℕ, Option, None, Some, refl, sym, ap, subst}
use Rattle.vm_base.specs.declared.replies.Reply.{Reply}
use Rattle.vm_base.specs.declared.replies.Reply.TheVariants.{NoFrame}
use Rattle.vm_calls.specs.declared.fault.Settled.{Settled}
use Rattle.vm_calls.specs.declared.fault.Settled.TheVariants.{Has, Copies, Cached, Wants}
use Rattle.live_levels.specs.declared.act.Act.{Act}
use Rattle.live_levels.specs.declared.act.Act.TheVariants.{Frame, Copy, Record}
use Rattle.live_tree.specs.Held.{HeldView}
use Rattle.live_pages.specs.Steps.{StepsWith}
use Rattle.seats.specs.Notes.{SeatView}
use Rattle.live_space.specs.declared.ending.Ending.{Ending}
use Rattle.live_space.specs.declared.ending.Ending.TheVariants.{Answer, GiveUp, GiveBack}
use Rattle.live_space.specs.Faulting.{ActsOn, FailsAs, Gets, GetsCopy, GetsFrame, GetsNew, GetsTaken, GivesUpOr, Prepares}
use Rattle.live_space.specs.Planned.{EndsIn, IsGivenUp}

-- a call that is given up has no reply of which something could be said
pub given_up_ends : (P : Reply → Type 0) (ending : Ending) → IsGivenUp ending → EndsIn P ending
given_up_ends P (Answer reply) h = absurd h
given_up_ends P GiveUp h = tt
given_up_ends P (GiveBack own) h = tt

pub gets : (act : Act) (s t : SeatView) (h k : HeldView) → StepsWith act s h t k → Gets act h k
gets act s t h k w = (w.ticket, w.slots)

-- the page got a frame, or a copy, and then the core was recorded, or the call is given up
pub got_frame : (frame core : ℕ) (s t : SeatView) (h m k : HeldView) (o : Option Ending) → StepsWith (Frame frame) s h t m
    → GivesUpOr (Gets (Record core) m) o k → GivesUpOr (GetsFrame core h) o k
got_frame frame core s t h m k None w g = (frame, (m, gets (Frame frame) s t h m w, g))
got_frame frame core s t h m k (Some ending) w g = g

pub got_copy : (frame core : ℕ) (s t : SeatView) (h m k : HeldView) (o : Option Ending) → StepsWith (Copy frame) s h t m
    → GivesUpOr (Gets (Record core) m) o k → GivesUpOr (GetsCopy core h) o k
got_copy frame core s t h m k None w g = (frame, (m, gets (Copy frame) s t h m w, g))
got_copy frame core s t h m k (Some ending) w g = g

-- it got a new frame that was taken for it
pub got_taken : (shown : Option ℕ) (core : ℕ) (h k : HeldView) (o : Option Ending) → GivesUpOr (GetsNew shown core h) o k → GetsTaken shown core h o k
got_taken shown core h k None g = g
got_taken shown core h k (Some ending) g = given_up_ends _ ending g

-- so it is what was found that was acted on
pub acts_has : (at : Settled) (frame core : ℕ) (h k : HeldView) (o : Option Ending) → at ≡ Has frame → GivesUpOr (Gets (Record core) h) o k → ActsOn at core h o k
acts_has at frame core h k o is g = subst (λ (s : Settled). ActsOn s core h o k) (sym is) (go o g)
  where
    go : (o : Option Ending) → GivesUpOr (Gets (Record core) h) o k → ActsOn (Has frame) core h o k
    go None g = g
    go (Some ending) g = given_up_ends _ ending g

pub acts_cached : (at : Settled) (frame core : ℕ) (h k : HeldView) (o : Option Ending) → at ≡ Cached frame → GivesUpOr (GetsFrame core h) o k → ActsOn at core h o k
acts_cached at frame core h k o is g = subst (λ (s : Settled). ActsOn s core h o k) (sym is) (go o g)
  where
    go : (o : Option Ending) → GivesUpOr (GetsFrame core h) o k → ActsOn (Cached frame) core h o k
    go None g = g
    go (Some ending) g = given_up_ends _ ending g

pub acts_copies : (at : Settled) (frame core : ℕ) (h k : HeldView) (o : Option Ending) → at ≡ Copies frame → GetsTaken (Some frame) core h o k → ActsOn at core h o k
acts_copies at frame core h k o is g = subst (λ (s : Settled). ActsOn s core h o k) (sym is) (go o g)
  where
    go : (o : Option Ending) → GetsTaken (Some frame) core h o k → ActsOn (Copies frame) core h o k
    go None g = g
    go (Some ending) g = g

pub acts_wants : (at : Settled) (core : ℕ) (h k : HeldView) (o : Option Ending) → at ≡ Wants → GetsTaken None core h o k → ActsOn at core h o k
acts_wants at core h k o is g = subst (λ (s : Settled). ActsOn s core h o k) (sym is) (go o g)
  where
    go : (o : Option Ending) → GetsTaken None core h o k → ActsOn Wants core h o k
    go None g = g
    go (Some ending) g = g
