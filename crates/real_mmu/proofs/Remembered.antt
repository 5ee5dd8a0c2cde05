-- Coherence holds also with TLBs of any size, which take in what the tables have and lose only what their cores drop.
use Rattle.machine_model.proofs.Words.{◌≡◌, ℕ, Bool, true, false, not, refl, sym, ap, subst, ◌∙◌, Some, None, Option, List, [], ◌∷◌, ◌==◌}
use Rattle.machine_model.proofs.Words.{if◌then◌else◌, PageInfo, PageRange, NoMemory, put, over, has, frame_of, put_all, put_both, put_same, put_other}
use Rattle.machine_model.proofs.Words.{inl, eq_false, eq_true}
use Rattle.machine_model.proofs.Words.{Slots, Translation, TlbEntry, tlb_without, Message, message_of, asked, remaining}
use Rattle.machine_model.proofs.Words.{reply_of, taken_for, let_go, awaits_in, can_give_up, still_held, some_has}
use Rattle.machine_model.proofs.Words.{page_of_touch, range_of, locking, locked_to, trying, with_inbox, tables_cleared, tlb_invalidated, World}
use Rattle.machine_model.proofs.Words.{Hardware, with_event, Step}
use Rattle.machine_model.specs.declared.event.Event.{Event}
use Rattle.machine_model.specs.declared.event.Event.TheVariants.{Go}
use Rattle.machine_model.specs.declared.event.Outcome.{Outcome}
use Rattle.machine_model.specs.declared.phase.Phase.{Phase}
use Rattle.machine_model.specs.declared.phase.Phase.TheVariants.{Acks, Answer, Check, CopyAcks, Free}
use Rattle.std.specs.Prelude.{◌&&◌, slice_get}
use Rattle.vm_base.specs.Plain.{Plain}
use Rattle.slot_lock.specs.declared.plan.Goal.TheVariants as To
use Rattle.mmu.specs.declared.message.Took.TheVariants as took
use Rattle.machine_model.specs.declared.event.Event.TheVariants as EventOf
use Rattle.machine_model.specs.Coherent.{AreTakenNew, IsBacked, IsSoundEntry, Every, IsCoherent, IsCoherentState, IsTableClear, HasDropped}
use Rattle.machine_model.specs.Invariant.{IsWellFormed}
use Rattle.machine_model.specs.Log.{LeadsTo}
use Rattle.machine_model.specs.Orderly.{IsOrderly}
use Rattle.machine_model.specs.Sound.{IsReached, IsSoundState}
use Rattle.machine_model.specs.Translations.{Translates}
use Rattle.machine_model.specs.Translations.Translates.{by_tlb}
use Rattle.machine_model.specs.Translations.IsNamed.{by_translation}
use Rattle.machine_model.proofs.Shapes.{GoesBy, moves, divides, cuts, fits, owns, lets_go, answers, posts, commits, takes, zeroes, first_copies, caches, shares}
use Rattle.machine_model.proofs.Shapes.{posts_copy, copies, installs, accesses, faults, Works, clears, invalidates, walks, evicts, flushes, reviews, frees}
use Rattle.machine_model.proofs.Shapes.{Shape, rests, begins, ends, goes, aims, gives_up, works, joins, IsUnawaited, IsGoing, going, picking, Comes}
use Rattle.machine_model.proofs.Shapes.{stopped, acts as happens, comes}
use Rattle.machine_model.proofs.Effects.{moves_quiet, replies_quiet, locked_quiet, let_go_still, lets_go_still, taken_asked}
use Rattle.machine_model.proofs.Lists.{none_sent}
use Rattle.machine_model.proofs.Cores.{IsCore, core_of, of_cores, drops as core_drops, clears as core_clears, invalidates as core_invalidates}
use Rattle.machine_model.proofs.CoherenceSteps.{goes_on, goes_silent, silent_by, posts_kept, fits_kept, commits_kept, fills_kept}
use Rattle.machine_model.proofs.CoherenceSteps.{caches_kept, posts_copy_kept, copies_kept, installs_kept}
use Rattle.machine_model.proofs.CountsKept.{unused_no_page}
use Rattle.machine_model.proofs.Reaching.{HasPage, backs}
use Rattle.machine_model.proofs.Sound.{fine_sound}
use Rattle.machine_model.proofs.SoundKept.{fine_step, reached_fine}
use Rattle.real_mmu.specs.Remembered.{own_range, taken_range, drops, RunKeeping, IsGood}

-- ---- TLBs of any size in place of the machine's

abbrev pub Tlbs : Type 0
Tlbs = ℕ → List TlbEntry

abbrev pub with_tlbs : Tlbs → World → World
with_tlbs g w = record w { hardware = record w.hardware { tlb = g } }

-- core c's loses the pages of the range, if there is one
abbrev pub tlbs_without : ℕ → Option PageRange → Tlbs → Tlbs
tlbs_without c None g = g
tlbs_without c (Some range) g = put g c (tlb_without (has range) (g c))

abbrev pub tlbs_after : World → Event → Tlbs → Tlbs
tlbs_after w (Go c) g = tlbs_without c (own_range (w.calls.phase c)) g
tlbs_after w (EventOf.Frame c f) g = tlbs_without c (own_range (w.calls.phase c)) g
tlbs_after w (EventOf.Take c) g = tlbs_without c (taken_range (asked (w.hardware.inbox c))) g
tlbs_after w _ g = g

-- the state with these TLBs is coherent
abbrev pub IsHeld : Tlbs → World → Type 0
IsHeld g w = IsCoherentState (with_tlbs g w)

-- fewer entries are coherent too
fewer : (v : World) (g : Tlbs) (c : ℕ) (range : Option PageRange) → IsHeld g v → IsHeld (tlbs_without c range g) v
fewer v g c None k = k
fewer v g c (Some range) k =
    of_cores v.memory.cached v.slots.info v.calls.phase (with_tlbs (tlbs_without c (Some range) g) v).hardware
    (put_all (λ d tlb. IsCore v.memory.cached v.slots.info v.calls.phase d (v.hardware.table d) tlb (v.hardware.inbox d)) g c
    (tlb_without (has range) (g c)) (core_drops (has range) (core_of c k)) (λ d ne. core_of d k))

fewer_after : (w : World) (e : Event) (v : World) (g : Tlbs) → IsHeld g v → IsHeld (tlbs_after w e g) v
fewer_after w (Go c) v g k = fewer v g c (own_range (w.calls.phase c)) k
fewer_after w (EventOf.Frame c f) v g k = fewer v g c (own_range (w.calls.phase c)) k
fewer_after w (EventOf.Take c) v g k = fewer v g c (taken_range (asked (w.hardware.inbox c))) k
fewer_after w _ v g k = k

by_going : (w : World) (c : ℕ) (e : Event) (g : Tlbs) (v : World) (range : PageRange) → IsGoing c e → own_range (w.calls.phase c) ≡ Some range
    → IsHeld (put g c (tlb_without (has range) (g c))) v → IsHeld (tlbs_after w e g) v
by_going w c _ g v range going same k = subst (λ o. IsHeld (tlbs_without c o g) v) (sym same) k
by_going w c _ g v range (picking f) same k = subst (λ o. IsHeld (tlbs_without c o g) v) (sym same) k

-- ---- every shape

same_info : {cached : ℕ → ℕ → Option ℕ} {phase : ℕ → Phase} {h : Hardware} (s t : Slots) → t.info ≡ s.info → IsCoherent cached s.info phase h
    → IsCoherent cached t.info phase h
same_info {cached} {phase} {h} s t same k = subst (λ info. IsCoherent cached info phase h) (sym same) k

moved : (w : World) (c : ℕ) (new : Phase) (t : Slots) → awaits_in (w.calls.phase c) ≡ None → awaits_in new ≡ None
    → t.info ≡ w.slots.info → IsCoherentState w → IsCoherent w.memory.cached t.info (put w.calls.phase c new) w.hardware
moved w c new t before none same k = same_info w.slots t same (goes_on c new before none k)

info_of : (t s : Slots) → t ≡ s → t.info ≡ s.info
info_of t s e = ap (λ x. x.info) e

goes_held : (w : World) (c : ℕ) (e : Event) (v : World) (g : Tlbs) → IsGoing c e → IsOrderly w → AreTakenNew w.slots.info w.calls.phase → IsHeld g w
    → GoesBy w c v → IsHeld (tlbs_after w e g) v
goes_held w c e v g i o n k (moves new m h) =
    let (old, now) = moves_quiet w c new m in
    fewer_after w e v g (subst (IsHeld g) (sym h) (moved (with_tlbs g w) c new w.slots old.still.awaits now.still.awaits refl k))
goes_held w c e v g i o n k (divides goal cursor t p s h) =
    fewer_after w e v g (subst (IsHeld g) (sym h) (same_info w.slots t s.divides.2.info k))
goes_held w c e v g i o n k (cuts place target range t p s h) =
    fewer_after w e v g (subst (IsHeld g) (sym h) (same_info w.slots t s.divides.2.info k))
goes_held w c e v g i o n k (fits place target range p cut h) =
    fewer_after w e v g (subst (IsHeld g) (sym h) (fits_kept (with_tlbs g w) c place target range o p k))
goes_held w c e v g i o n k (owns goal cursor b t p l h) =
    fewer_after w e v g (subst (IsHeld g) (sym h)
    (moved (with_tlbs g w) c (locked_to goal b) t (ap awaits_in p) (locked_quiet goal b).still.awaits (info_of t _ l.now) k))
goes_held w c e v g i o n k (lets_go held b t new l u h) =
    let (old, now) = lets_go_still (w.calls.phase c) held b new l in
    fewer_after w e v g (subst (IsHeld g) (sym h) (moved (with_tlbs g w) c new t old.awaits now.awaits (info_of t _ u.now) k))
goes_held w c e v g i o n k (answers held reply r h) =
    fewer_after w e v g (subst (IsHeld g) (sym h)
    (moved (with_tlbs g w) c (let_go held reply) w.slots (replies_quiet w c held reply r).still.awaits (let_go_still held reply).awaits refl k))
goes_held w c e v g i o n k (posts change shoot p h) =
    by_going w c e g v (range_of change) i (ap own_range p)
    (subst (IsHeld (put g c (tlb_without (has (range_of change)) (g c)))) (sym h) (posts_kept (with_tlbs g w) c change shoot o p k))
goes_held w c e v g i o n k (commits goal change counts p nobody l h) =
    fewer_after w e v g (subst (IsHeld g) (sym h) (commits_kept (with_tlbs g w) c goal change counts p nobody k))
goes_held w c e v g i o n k (takes touch old f p l h) =
    fewer_after w e v g (subst (IsHeld g) (sym h)
    (moved (with_tlbs g w) c (taken_for touch old f) w.slots (ap awaits_in p) (taken_asked touch old f).1 refl k))
goes_held w c e v g i o n k (zeroes touch f counts p b t h) =
    fewer_after w e v g (subst (IsHeld g) (sym h) (fills_kept (with_tlbs g w) c touch (Some f) f o p k))
goes_held w c e v g i o n k (first_copies touch f counts p b t h) =
    fewer_after w e v g (subst (IsHeld g) (sym h) (fills_kept (with_tlbs g w) c touch (Some f) f o p k))
goes_held w c e v g i o n k (shares touch own x counts p s j t h) =
    fewer_after w e v g (subst (IsHeld g) (sym h) (fills_kept (with_tlbs g w) c touch own x o p k))
goes_held w c e v g i o n k (caches touch f counts p s none t h) =
    fewer_after w e v g (subst (IsHeld g) (sym h) (caches_kept (with_tlbs g w) c touch f counts o n p none k))
goes_held w c e v g i o n k (posts_copy touch f p h) =
    by_going w c e g v (page_of_touch touch) i (ap own_range p)
    (subst (IsHeld (put g c (tlb_without (has (page_of_touch touch)) (g c)))) (sym h) (posts_copy_kept (with_tlbs g w) c touch f p k))
goes_held w c e v g i o n k (copies touch f x counts p nobody at t h) =
    fewer_after w e v g (subst (IsHeld g) (sym h) (copies_kept (with_tlbs g w) c touch f x counts p nobody k))
goes_held w c e v g i o n k (installs touch p h) =
    fewer_after w e v g (subst (IsHeld g) (sym h) (installs_kept (with_tlbs g w) c touch o p k))
goes_held w c e v g i o n k (accesses touch f p j h) =
    fewer_after w e v g (subst (IsHeld g) (sym h)
    (moved (with_tlbs g w) c (Answer (reply_of touch f w.memory)) w.slots (ap awaits_in p) refl refl k))
goes_held w c e v g i o n k (faults touch p j h) =
    fewer_after w e v g (subst (IsHeld g) (sym h)
    (moved (with_tlbs g w) c (locking (To.Access touch)) w.slots (ap awaits_in p) refl refl k))

clear_held : {cached : ℕ → ℕ → Option ℕ} {info : ℕ → Option PageInfo} {phase : ℕ → Phase} {h : Hardware} (c : ℕ) (range : PageRange)
    → asked (h.inbox c) ≡ took.Clear range → IsCoherent cached info phase h
    → IsCoherent cached info phase (with_inbox (tables_cleared h c range) c (remaining (h.inbox c)))
clear_held {cached} {info} {phase} {h} c range e k =
    of_cores cached info phase (with_inbox (tables_cleared h c range) c (remaining (h.inbox c)))
    (put_both (λ d table inbox. IsCore cached info phase d table (h.tlb d) inbox) h.table h.inbox c
    (over (h.table c) (has range) None) (remaining (h.inbox c)) (core_clears range (h.inbox c) e (core_of c k))
    (λ d ne. core_of d k))

invalidation_held : {cached : ℕ → ℕ → Option ℕ} {info : ℕ → Option PageInfo} {phase : ℕ → Phase} {h : Hardware} (c : ℕ) (range : PageRange)
    → asked (h.inbox c) ≡ took.Invalidate range → IsCoherent cached info phase h
    → IsCoherent cached info phase (with_inbox (tlb_invalidated h c range) c (remaining (h.inbox c)))
invalidation_held {cached} {info} {phase} {h} c range e k =
    of_cores cached info phase (with_inbox (tlb_invalidated h c range) c (remaining (h.inbox c)))
    (put_both (λ d tlb inbox. IsCore cached info phase d (h.table d) tlb inbox) h.tlb h.inbox c
    (tlb_without (has range) (h.tlb c)) (remaining (h.inbox c))
    (core_invalidates range (h.inbox c) e (core_of c k)) (λ d ne. core_of d k))

works_held : (w : World) (c : ℕ) (e : Event) (v : World) (g : Tlbs) → IsHeld g w → Works w c e v → IsHeld (tlbs_after w e g) v
works_held w c e v g k (clears i range a h) =
    fewer_after w e v g (subst (IsHeld g) (sym h) (clear_held c range a k))
works_held w c e v g k (invalidates i range a h) =
    subst (λ e. IsHeld (tlbs_after w e g) v) (sym i)
    (subst (λ o. IsHeld (tlbs_without c (taken_range o) g) v) (sym a)
    (subst (IsHeld (put g c (tlb_without (has range) (g c)))) (sym h) (invalidation_held c range a k)))
works_held w c e v g k (walks p i a h) = fewer_after w e v g (subst (IsHeld g) (sym h) k)
works_held w c e v g k (evicts p i a h) = fewer_after w e v g (subst (IsHeld g) (sym h) k)
works_held w c e v g k (flushes i report counts t h) = fewer_after w e v g (subst (IsHeld g) (sym h) k)
works_held w c e v g k (reviews i report counts t h) = fewer_after w e v g (subst (IsHeld g) (sym h) k)
works_held w c e v g k (frees i f counts t h) = fewer_after w e v g (subst (IsHeld g) (sym h) k)

-- no message is under way of a call that may be given up
given_up_silent : (w : World) (c : ℕ) (phase : Phase) → w.calls.phase c ≡ phase → can_give_up phase ≡ true → IsUnawaited w.hardware c phase
    → IsCoherentState w → (d : ℕ) → message_of (w.hardware.inbox d) c ≡ None
given_up_silent w c (CopyAcks touch f) e can u k d = silent_by (message_of (w.hardware.inbox d) c) (u d)
given_up_silent w c (Acks goal change) e can u k d = absurd cc
given_up_silent w c _ e can u k d = none_sent w.calls.phase c d (w.hardware.inbox d) (ap awaits_in e) (k.asked d)

shape_held : (w : World) (e : Event) (x : Outcome) (v : World) (g : Tlbs) → IsOrderly w → AreTakenNew w.slots.info w.calls.phase → IsHeld g w
    → Shape w e x v → IsHeld (tlbs_after w e g) v
shape_held w e x v g o n k (rests i h) = fewer_after w e v g (subst (IsHeld g) (sym h) k)
shape_held w e x v g o n k (begins c request i s lt p below h) =
    fewer_after w e v g (subst (IsHeld g) (sym h) (moved (with_tlbs g w) c (Check request) w.slots (ap awaits_in p) refl refl k))
shape_held w e x v g o n k (ends c reply i s lt p h) =
    fewer_after w e v g (subst (IsHeld g) (sym h) (moved (with_tlbs g w) c Free w.slots (ap awaits_in p) refl refl k))
shape_held w e x v g o n k (goes c i s lt b) = goes_held w c e v g i o n k b
shape_held w e x v g o n k (aims c place target a s lt p h) =
    fewer_after w e v g (subst (IsHeld g) (sym h) (moved (with_tlbs g w) c (trying place target) w.slots (ap awaits_in p) refl refl k))
shape_held w e x v g o n k (gives_up c i s lt can u h) =
    let held : Option PageRange = still_held (w.calls.phase c) in
    fewer_after w e v g (subst (IsHeld g) (sym h)
    (goes_silent c (let_go held NoMemory) (given_up_silent (with_tlbs g w) c (w.calls.phase c) refl can u k) (let_go_still held NoMemory).awaits k))
shape_held w e x v g o n k (works c s lt b) = works_held w c e v g k b
shape_held w e x v g o n k (joins p t i s page j m h) = fewer_after w e v g (subst (IsHeld g) (sym h) (same_info w.slots t j.info k))

-- the drops don't look at the number of events
uncounted : (w : World) (e : Event) (v : World) (g : Tlbs) → IsHeld (tlbs_after (with_event w) e g) v → IsHeld (tlbs_after w e g) v
uncounted w (Go c) v g h = h
uncounted w (EventOf.Frame c f) v g h = h
uncounted w (EventOf.Take c) v g h = h
uncounted w _ v g h = h

pub step_held : (w v : World) (e : Event) (x : Outcome) (g : Tlbs) → IsWellFormed w → IsHeld g w → Step w e x v → IsHeld (tlbs_after w e g) v
step_held w v e x g f k s = go (comes w e x v s)
  where
    go : Comes w e x v → IsHeld (tlbs_after w e g) v
    go (stopped lt i h) = fewer_after w e v g (subst (IsHeld g) (sym h) k)
    go (happens lt h) = uncounted w e v g
        (shape_held (with_event w) e x v g f.order (λ c y p mine. unused_no_page w f.order f.counted y p (f.counted.taken c y mine)) k h)

-- ---- one entry stays where its core doesn't drop its page

abbrev pub entry_at : ℕ → Translation → TlbEntry
entry_at p e = record { page = p; translation = e }

kept_one : (range : PageRange) (p : ℕ) (e : Translation) → has range p ≡ false
    → tlb_without (has range) (entry_at p e ∷ []) ≡ entry_at p e ∷ []
kept_one range p e out = ap (λ b. if not b then entry_at p e ∷ [] else []) out

one_without : (c d : ℕ) (range : Option PageRange) (g : Tlbs) (p : ℕ) (e : Translation) → ((c == d) && some_has range p) ≡ false
    → g c ≡ entry_at p e ∷ [] → tlbs_without d range g c ≡ entry_at p e ∷ []
one_without c d None g p e out same = same
one_without c d (Some range) g p e out same = go (c == d) refl
  where
    go : (b : Bool) → (c == d) ≡ b → put g d (tlb_without (has range) (g d)) c ≡ entry_at p e ∷ []
    go true i =
        let at : c ≡ d = eq_true c d i in
        let off : has range p ≡ false = sym (ap (λ b. b && has range p) i) ∙ out in
        subst (λ x. put g x (tlb_without (has range) (g x)) c ≡ entry_at p e ∷ []) at
        (put_same g c (tlb_without (has range) (g c)) ∙ (ap (tlb_without (has range)) same ∙ kept_one range p e off))
    go false i = put_other g d (tlb_without (has range) (g d)) c (eq_false c d i) ∙ same

one_after : (w : World) (event : Event) (c p : ℕ) (e : Translation) (g : Tlbs) → drops w event c p ≡ false
    → g c ≡ entry_at p e ∷ [] → tlbs_after w event g c ≡ entry_at p e ∷ []
one_after w (Go d) c p e g out same = one_without c d (own_range (w.calls.phase d)) g p e out same
one_after w (EventOf.Frame d f) c p e g out same = one_without c d (own_range (w.calls.phase d)) g p e out same
one_after w (EventOf.Take d) c p e g out same = one_without c d (taken_range (asked (w.hardware.inbox d))) g p e out same
one_after w _ c p e g out same = same

-- ---- runs

-- what the state has: it is well formed with TLBs of which core c's is this entry alone
pub record Holds (w : World) (c p : ℕ) (e : Translation) : Type 0 where
  pub well : IsWellFormed w
  pub tlbs : Tlbs
  pub held : IsHeld tlbs w
  pub one : tlbs c ≡ entry_at p e ∷ []

pub run_holds : (w : World) (es : List Event) (os : List Outcome) (v : World) (c p : ℕ) (e : Translation) → Holds w c p e
    → RunKeeping c p w es os v → Holds v c p e
run_holds w [] [] v c p e k r = subst (λ x. Holds x c p e) (sym r) k
run_holds w (event ∷ es) (o ∷ os) v c p e k r =
    let s : Step w event o r.0 = r.1 in
    run_holds r.0 es os v c p e (record {
      well = (fine_step w r.0 event o k.well s).0;
      tlbs = tlbs_after w event k.tlbs;
      held = step_held w r.0 event o k.tlbs k.well k.held s;
      one = one_after w event c p e k.tlbs r.2 k.one;
    }) r.3
run_holds w _ _ v c p e k r = absurd r

-- at first the entry is the tables', and no other core has any
pub first_held : (w : World) (c p : ℕ) (e : Translation) → IsWellFormed w → w.hardware.table c p ≡ Some e → Holds w c p e
first_held w c p e f at = record {
  well = f;
  tlbs = put none c (entry_at p e ∷ []);
  held = of_cores w.memory.cached w.slots.info w.calls.phase (with_tlbs (put none c (entry_at p e ∷ [])) w).hardware
      (put_all (λ d tlb. IsCore w.memory.cached w.slots.info w.calls.phase d (w.hardware.table d) tlb (w.hardware.inbox d)) none c
      (entry_at p e ∷ []) own (λ d ne. other d));
  one = put_same none c (entry_at p e ∷ []);
}
  where
    none : Tlbs
    none d = []

    left : (table : ℕ → Option Translation) (tlb : List TlbEntry) (range : PageRange) (o : Option Message) → HasDropped table tlb range o
        → HasDropped table [] range o
    left table tlb range None h = (h.0, tt)
    left table tlb range (Some m) h = h

    off : (range : PageRange) → IsTableClear (w.hardware.table c) range → (b : Bool) → has range p ≡ b → has range p ≡ false
    off range clear true i = absurd (let a = clear p i in cc)
    off range clear false i = i

    one : (tlb : List TlbEntry) (range : PageRange) (o : Option Message) → HasDropped (w.hardware.table c) tlb range o
        → HasDropped (w.hardware.table c) (entry_at p e ∷ []) range o
    one tlb range None h = (h.0, (off range h.0 (has range p) refl, tt))
    one tlb range (Some m) h = h

    other : (d : ℕ) → IsCore w.memory.cached w.slots.info w.calls.phase d (w.hardware.table d) [] (w.hardware.inbox d)
    other d = record {
      tables = f.coherent.tables d;
      tlbs = tt;
      asked = f.coherent.asked d;
      dropped = λ x range a. left (w.hardware.table d) (w.hardware.tlb d) range (message_of (w.hardware.inbox d) x) (f.coherent.dropped x d range a);
    }

    own : IsCore w.memory.cached w.slots.info w.calls.phase c (w.hardware.table c) (entry_at p e ∷ []) (w.hardware.inbox c)
    own = record {
      tables = f.coherent.tables c;
      tlbs = ((f.coherent.tables c p e at, inl at), tt);
      asked = f.coherent.asked c;
      dropped = λ x range a. one (w.hardware.tlb c) range (message_of (w.hardware.inbox c) x) (f.coherent.dropped x c range a);
    }

-- ---- what the invariant gives

good : (v : World) (c p : ℕ) (e : Translation) → Holds v c p e → (t : Plain) × LeadsTo v t × IsGood v t c p e
good v c p e k = (
  sound.0,
  sound.1.log,
  record {
    agrees = sound.1.agrees c p e translates;
    frame = ap frame_of page.mapped ∙ page.frame;
    busy = sound.1.named e.frame (by_translation c p e translates refl);
    recorded = backed.recorded;
  },
)
  where
    x : World
    x = with_tlbs k.tlbs v

    well : IsWellFormed x
    well = record {
      order = k.well.order;
      coherent = k.held;
      counted = k.well.counted;
      plain = k.well.plain;
      log = k.well.log;
      good = k.well.good;
    }

    sound : IsSoundState x
    sound = fine_sound x well

    translates : Translates x.hardware c p e
    translates = by_tlb 0 (ap (λ es. slice_get es 0) k.one)

    backed : IsBacked v.memory.cached (v.slots.info p) c e
    backed = (subst (Every (IsSoundEntry v.memory.cached v.slots.info c (v.hardware.table c) (v.hardware.inbox c))) k.one (k.held.tlbs c)).0.0

    page : HasPage v.memory.cached (v.slots.info p) e
    page = backs v.memory.cached (v.slots.info p) c e backed

pub remembered_good : (w v : World) (es : List Event) (os : List Outcome) (c p : ℕ) (e : Translation) → IsReached w → w.hardware.table c p ≡ Some e
    → RunKeeping c p w es os v → (t : Plain) × LeadsTo v t × IsGood v t c p e
remembered_good w v es os c p e h at r = good v c p e (run_holds w es os v c p e (first_held w c p e (reached_fine w h) at) r)
