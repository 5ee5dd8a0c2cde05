-- Calls that were answered, or are to end
use Rattle.std.proofs.Common.{◌≡◌, ◌∙◌, ◌⊎◌, ⊎_elim, ℕ, Option, None, Some, [], inl, inr, refl, sym, subst}
use Rattle.std.specs.Prelude.{IfNone, IfSome}
use Rattle.std.specs.Borrow.{MutBor}
use Rattle.vm_base.specs.declared.replies.Errno.{Errno}
use Rattle.vm_base.specs.declared.replies.Reply.{Reply}
use Rattle.vm_base.specs.declared.replies.Reply.TheVariants.{NoMemory, Refused}
use Rattle.vm_base.specs.declared.rights.Access.{Access}
use Rattle.vm_base.specs.Plain.{File}
use Rattle.slot_lock.specs.declared.plan.Change.{Change}
use Rattle.slot_lock.specs.Plan.{range_of}
use Rattle.vm_calls.specs.declared.decision.Decision.TheVariants.{Act, Refuse}
use Rattle.vm_calls.specs.Decisions.{DecidesChange}
use Rattle.machine_model.specs.Changes.{reply_to}
use Rattle.live_tree.specs.Held.{HeldView}
use Rattle.live_tree.specs.Shown.{shown}
use Rattle.seats.specs.Growing.{Grew}
use Rattle.seats.specs.Notes.{SeatView}
use Rattle.live_pages.specs.Ending.{Ends}
use Rattle.live_pages.proofs.Ending.{ends_after}
use Rattle.live_space.specs.declared.ending.Ending.{Ending}
use Rattle.live_space.specs.declared.ending.Ending.TheVariants.{Answer, GiveUp, GiveBack}
use Rattle.live_space.specs.declared.ending.Ran.{Ran}
use Rattle.live_space.specs.declared.ending.Ran.TheVariants.{Answered, Open}
use Rattle.live_space.specs.Answering.{IsFault}
use Rattle.live_space.specs.Changing.{Changes, MadeIn}
use Rattle.live_space.specs.Endings.{HoldsNone, RunsTo, reply_of}
use Rattle.live_space.specs.InFlight.{GoesOn}
use Rattle.live_space.specs.Planned.{AnswersChange, AnswersTouch, EndsIn, IsGivenUp, RanIn}
use Rattle.live_space.proofs.Replies.{made_answers, refused_answers}
use Rattle.live_space.proofs.Noted.{goes_trans}

-- what a call came to, also seen from before steps between
pub runs_after : (s t u : MutBor SeatView) (ran : Ran) → GoesOn s t → RunsTo t ran u → RunsTo s ran u
runs_after s t u (Answered reply) g e = (e.0 ∙ g.same_reference, ends_after s.now t.now u.now reply g.grew e.1)
runs_after s t u (Open ending) g e = goes_trans s t u g e

pub runs_answered : (s t : MutBor SeatView) (ran : Ran) (reply : Reply) → RunsTo s ran t → ran ≡ Answered reply → Ends s.now reply t.now
runs_answered s t ran reply h is = let e = subst (λ (r : Ran). RunsTo s r t) is h in e.1

pub runs_open : (s t : MutBor SeatView) (ran : Ran) (ending : Ending) → RunsTo s ran t → ran ≡ Open ending → Grew s.now t.now
runs_open s t ran ending h is = let e = subst (λ (r : Ran). RunsTo s r t) is h in e.grew

pub holds_none : (h : HeldView) (ran : Ran) (reply : Reply) → HoldsNone ran h → ran ≡ Answered reply → h.slots ≡ []
holds_none h ran reply none is = subst (λ (r : Ran). HoldsNone r h) is none

-- what is said of no answer, where there is none
pub none_at : {X P : Type 0} (o : Option X) → o ≡ None → IfNone o P → P
none_at None e h = h
none_at (Some x) e h = absurd cc

-- what is known of a seat is known of it under each of its names
pub at_last : (P : SeatView → Type 0) (s t : SeatView) → P s → s ≡ t → P t
at_last P s t h e = subst P e h

-- ---- replies of a call that is to end

pub ends_map : (P Q : Reply → Type 0) (ending : Ending) → ((reply : Reply) → P reply → Q reply) → EndsIn P ending → EndsIn Q ending
ends_map P Q (Answer reply) f h = f reply h
ends_map P Q GiveUp f h = tt
ends_map P Q (GiveBack own) f h = tt

-- two things that are said of the reply
pub ends_both : (P Q R : Reply → Type 0) (ending : Ending) → ((reply : Reply) → P reply → Q reply → R reply) → EndsIn P ending → EndsIn Q ending → EndsIn R ending
ends_both P Q R (Answer reply) f h k = f reply h k
ends_both P Q R GiveUp f h k = tt
ends_both P Q R (GiveBack own) f h k = tt

-- where there is an ending
pub some_ends_map : (P Q : Reply → Type 0) (o : Option Ending) → ((reply : Reply) → P reply → Q reply) → IfSome o (EndsIn P) → IfSome o (EndsIn Q)
some_ends_map P Q None f h = tt
some_ends_map P Q (Some ending) f h = ends_map P Q ending f h

pub given_up_faults : (ending : Ending) → IsGivenUp ending → EndsIn IsFault ending
given_up_faults (Answer reply) h = absurd h
given_up_faults GiveUp h = tt
given_up_faults (GiveBack own) h = tt

pub faults_touch : (access : Access) (ending : Ending) → EndsIn IsFault ending → EndsIn (AnswersTouch access) ending
faults_touch access ending h = ends_map IsFault (AnswersTouch access) ending (λ reply f. inr f) h

-- the reply is one of these, or the call is given up
pub reply_ends : (P : Reply → Type 0) (ending : Ending) → EndsIn P ending → (reply_of ending ≡ NoMemory) ⊎ P (reply_of ending)
reply_ends P (Answer reply) h = inr h
reply_ends P GiveUp h = inl refl
reply_ends P (GiveBack own) h = inl refl

pub open_in : (P : Reply → Type 0) (ran : Ran) (ending : Ending) → RanIn P ran → ran ≡ Open ending → EndsIn P ending
open_in P ran ending h is = subst (λ (r : Ran). RanIn P r) is h

pub answered_in : (P : Reply → Type 0) (ran : Ran) (reply : Reply) → RanIn P ran → ran ≡ Answered reply → P reply
answered_in P ran reply h is = subst (λ (r : Ran). RanIn P r) is h

-- a change that was decided of held slots answers one of its replies
pub changes_answers : (files : ℕ → Option File) (change : Change) (h : HeldView) (t : SeatView) (k : HeldView) (reply : Reply)
    → Changes files change h t k reply → AnswersChange change reply
changes_answers files change h t k reply c =
    ⊎_elim (λ (l : (errno : Errno) × DecidesChange files (shown h.slots) change (Refuse errno) × (reply ≡ Refused errno) × (k ≡ h)).
    subst (AnswersChange change) (sym l.2) (refused_answers files (shown h.slots) change l.0 l.1))
    (λ (r : (cores : ℕ) × DecidesChange files (shown h.slots) change (Act (range_of change) cores) × (reply ≡ reply_to change) × MadeIn change h t k).
    subst (AnswersChange change) (sym r.2) (made_answers change))
    c
