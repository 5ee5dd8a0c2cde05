-- Every step from an orderly and coherent state leaves a coherent one.
use Rattle.machine_model.proofs.Words.{◌≡◌, ℕ, true, refl, sym, ap, subst, Some, None, Option, List, PageInfo, PageRange, NoMemory, put, over, has, put_all}
use Rattle.machine_model.proofs.Words.{put_both, Touch, Slots, Translation, TlbEntry, Translated, tlb_walked, tlb_at, tlb_without, Message, message_of, asked}
use Rattle.machine_model.proofs.Words.{remaining, Event, Outcome, Phase, Free, Check, Acks, Answer}
use Rattle.machine_model.proofs.Words.{Fill, CopyAcks, reply_of, taken_for, let_go, awaits_in, can_give_up, still_held}
use Rattle.machine_model.proofs.Words.{locking, locked_to, trying, with_inbox, tables_cleared, tlb_invalidated, translated_by, after_translating, after_walk}
use Rattle.machine_model.proofs.Words.{after_eviction, World, Hardware, Made, new_world, with_event, Step}
use Rattle.slot_lock.specs.declared.plan.Goal.TheVariants as To
use Rattle.mmu.specs.declared.translated.Translated.TheVariants as By
use Rattle.mmu.specs.Tables.{tlb_after}
use Rattle.mmu.specs.Tlb.{is_at}
use Rattle.mmu.specs.declared.message.Took.TheVariants as took
use Rattle.machine_model.specs.Translating.{with_tlb}
use Rattle.machine_model.specs.Orderly.{IsOrderly}
use Rattle.machine_model.proofs.Shapes.{GoesBy, moves, divides, cuts, fits, owns, lets_go, answers, posts, commits, takes, zeroes, first_copies, caches, shares}
use Rattle.machine_model.proofs.Shapes.{posts_copy, copies, installs, accesses, faults, Works, clears, invalidates, walks, evicts, flushes, reviews, frees}
use Rattle.machine_model.proofs.Shapes.{Shape, rests, begins, ends, goes, aims, gives_up, works, joins, IsUnawaited, Comes, stopped, acts as happens, comes}
use Rattle.machine_model.proofs.Effects.{moves_quiet, replies_quiet, locked_quiet, let_go_still, lets_go_still, taken_asked}
use Rattle.machine_model.specs.Coherent.{AreTakenNew, IsCoherent, IsCoherentState}
use Rattle.machine_model.proofs.Lists.{none_sent}
use Rattle.machine_model.proofs.Cores.{IsCore, core_of, of_cores, fills as core_fills, drops, clears as core_clears, invalidates as core_invalidates}
use Rattle.machine_model.proofs.CoherenceSteps.{goes_on, goes_silent, silent_by, posts_kept, fits_kept, commits_kept, fills_kept}
use Rattle.machine_model.proofs.CoherenceSteps.{caches_kept, posts_copy_kept, copies_kept, installs_kept}

-- ---- one core's TLB changes, or what it has beside its call

tlb_changes : {cached : ℕ → ℕ → Option ℕ} {info : ℕ → Option PageInfo} {phase : ℕ → Phase} {h : Hardware} (c : ℕ) (tlb : List TlbEntry)
    → IsCore cached info phase c (h.table c) tlb (h.inbox c) → IsCoherent cached info phase h → IsCoherent cached info phase (with_tlb h c tlb)
tlb_changes {cached} {info} {phase} {h} c tlb own k = of_cores cached info phase (with_tlb h c tlb)
    (put_all (λ d tlb. IsCore cached info phase d (h.table d) tlb (h.inbox d)) h.tlb c tlb own (λ d ne. core_of d k))

-- an access is translated
tried : {cached : ℕ → ℕ → Option ℕ} {info : ℕ → Option PageInfo} {phase : ℕ → Phase} {d : ℕ} {table : ℕ → Option Translation}
    {tlb : List TlbEntry} {inbox : List Message} (p : ℕ) (by : Translated) → IsCore cached info phase d table tlb inbox
    → IsCore cached info phase d table (tlb_after by p (table p) tlb) inbox
tried p (By.Hit f) k = k
tried {cached} {info} {phase} {d} {table} {tlb} {inbox} p (By.Fill f) k = go (table p) refl
  where
    go : (o : Option Translation) → table p ≡ o → IsCore cached info phase d table (tlb_after (By.Fill f) p o tlb) inbox
    go None e = k
    go (Some t) e = core_fills p t e k
tried p By.Fault k = drops (is_at p) k

-- tables are walked without an access
walked : {cached : ℕ → ℕ → Option ℕ} {info : ℕ → Option PageInfo} {phase : ℕ → Phase} {d : ℕ} {table : ℕ → Option Translation}
    {tlb : List TlbEntry} {inbox : List Message} (p : ℕ) (had : Option Translation)
    → IsCore cached info phase d table tlb inbox → IsCore cached info phase d table (tlb_walked had (table p) p tlb) inbox
walked p (Some x) k = k
walked {cached} {info} {phase} {d} {table} {tlb} {inbox} p None k = go (table p) refl
  where
    go : (o : Option Translation) → table p ≡ o → IsCore cached info phase d table (tlb_walked None o p tlb) inbox
    go None e = k
    go (Some t) e = core_fills p t e k

translating_kept : {cached : ℕ → ℕ → Option ℕ} {info : ℕ → Option PageInfo} {phase : ℕ → Phase} {h : Hardware} (c : ℕ) (touch : Touch)
    → IsCoherent cached info phase h → IsCoherent cached info phase (after_translating h c touch)
translating_kept {h = h} c touch k =
    tlb_changes c (tlb_after (translated_by h c touch) touch.page (h.table c touch.page) (h.tlb c))
    (tried touch.page (translated_by h c touch) (core_of c k)) k

walk_kept : {cached : ℕ → ℕ → Option ℕ} {info : ℕ → Option PageInfo} {phase : ℕ → Phase} {h : Hardware} (c p : ℕ) → IsCoherent cached info phase h
    → IsCoherent cached info phase (after_walk h c p)
walk_kept {h = h} c p k =
    tlb_changes c (tlb_walked (tlb_at (h.tlb c) p) (h.table c p) p (h.tlb c))
    (walked p (tlb_at (h.tlb c) p) (core_of c k)) k

eviction_kept : {cached : ℕ → ℕ → Option ℕ} {info : ℕ → Option PageInfo} {phase : ℕ → Phase} {h : Hardware} (c p : ℕ) → IsCoherent cached info phase h
    → IsCoherent cached info phase (after_eviction h c p)
eviction_kept {h = h} c p k = tlb_changes c (tlb_without (is_at p) (h.tlb c)) (drops (is_at p) (core_of c k)) k

clear_kept : {cached : ℕ → ℕ → Option ℕ} {info : ℕ → Option PageInfo} {phase : ℕ → Phase} {h : Hardware} (c : ℕ) (range : PageRange)
    → asked (h.inbox c) ≡ took.Clear range → IsCoherent cached info phase h
    → IsCoherent cached info phase (with_inbox (tables_cleared h c range) c (remaining (h.inbox c)))
clear_kept {cached} {info} {phase} {h} c range e k =
    of_cores cached info phase (with_inbox (tables_cleared h c range) c (remaining (h.inbox c)))
    (put_both (λ d table inbox. IsCore cached info phase d table (h.tlb d) inbox) h.table h.inbox c
    (over (h.table c) (has range) None) (remaining (h.inbox c)) (core_clears range (h.inbox c) e (core_of c k))
    (λ d ne. core_of d k))

invalidation_kept : {cached : ℕ → ℕ → Option ℕ} {info : ℕ → Option PageInfo} {phase : ℕ → Phase} {h : Hardware} (c : ℕ) (range : PageRange)
    → asked (h.inbox c) ≡ took.Invalidate range → IsCoherent cached info phase h
    → IsCoherent cached info phase (with_inbox (tlb_invalidated h c range) c (remaining (h.inbox c)))
invalidation_kept {cached} {info} {phase} {h} c range e k =
    of_cores cached info phase (with_inbox (tlb_invalidated h c range) c (remaining (h.inbox c)))
    (put_both (λ d tlb inbox. IsCore cached info phase d (h.table d) tlb inbox) h.tlb h.inbox c
    (tlb_without (has range) (h.tlb c)) (remaining (h.inbox c))
    (core_invalidates range (h.inbox c) e (core_of c k)) (λ d ne. core_of d k))

-- ---- every shape

-- pages have the same
same_info : {cached : ℕ → ℕ → Option ℕ} {phase : ℕ → Phase} {h : Hardware} (s t : Slots) → t.info ≡ s.info → IsCoherent cached s.info phase h
    → IsCoherent cached t.info phase h
same_info {cached} {phase} {h} s t same k = subst (λ info. IsCoherent cached info phase h) (sym same) k

-- the call goes on to a phase in which it awaits nothing, over slots whose pages have the same
moved : (w : World) (c : ℕ) (new : Phase) (t : Slots) → awaits_in (w.calls.phase c) ≡ None → awaits_in new ≡ None
    → t.info ≡ w.slots.info → IsCoherentState w → IsCoherent w.memory.cached t.info (put w.calls.phase c new) w.hardware
moved w c new t before none same k = same_info w.slots t same (goes_on c new before none k)

info_of : (t s : Slots) → t ≡ s → t.info ≡ s.info
info_of t s e = ap (λ x. x.info) e

goes_kept : (w : World) (c : ℕ) (v : World) → IsOrderly w → AreTakenNew w.slots.info w.calls.phase → IsCoherentState w → GoesBy w c v → IsCoherentState v
goes_kept w c v g n k (moves new m h) =
    let (old, now) = moves_quiet w c new m in
    subst IsCoherentState (sym h) (moved w c new w.slots old.still.awaits now.still.awaits refl k)
goes_kept w c v g n k (divides goal cursor t e s h) =
    subst IsCoherentState (sym h) (same_info w.slots t s.divides.2.info k)
goes_kept w c v g n k (cuts place target range t e s h) =
    subst IsCoherentState (sym h) (same_info w.slots t s.divides.2.info k)
goes_kept w c v g n k (fits place target range e cut h) = subst IsCoherentState (sym h) (fits_kept w c place target range g e k)
goes_kept w c v g n k (owns goal cursor b t e l h) =
    subst IsCoherentState (sym h)
    (moved w c (locked_to goal b) t (ap awaits_in e) (locked_quiet goal b).still.awaits (info_of t _ l.now) k)
goes_kept w c v g n k (lets_go held b t new l u h) =
    let (old, now) = lets_go_still (w.calls.phase c) held b new l in
    subst IsCoherentState (sym h) (moved w c new t old.awaits now.awaits (info_of t _ u.now) k)
goes_kept w c v g n k (answers held reply r h) =
    subst IsCoherentState (sym h)
    (moved w c (let_go held reply) w.slots (replies_quiet w c held reply r).still.awaits (let_go_still held reply).awaits refl k)
goes_kept w c v g n k (posts change shoot e h) = subst IsCoherentState (sym h) (posts_kept w c change shoot g e k)
goes_kept w c v g n k (commits goal change counts e nobody l h) =
    subst IsCoherentState (sym h) (commits_kept w c goal change counts e nobody k)
goes_kept w c v g n k (takes touch old f e l h) =
    subst IsCoherentState (sym h) (moved w c (taken_for touch old f) w.slots (ap awaits_in e) (taken_asked touch old f).1 refl k)
goes_kept w c v g n k (zeroes touch f counts e b t h) = subst IsCoherentState (sym h) (fills_kept w c touch (Some f) f g e k)
goes_kept w c v g n k (first_copies touch f counts e b t h) = subst IsCoherentState (sym h) (fills_kept w c touch (Some f) f g e k)
goes_kept w c v g n k (shares touch own x counts e s i t h) = subst IsCoherentState (sym h) (fills_kept w c touch own x g e k)
goes_kept w c v g n k (caches touch f counts e s none t h) = subst IsCoherentState (sym h) (caches_kept w c touch f counts g n e none k)
goes_kept w c v g n k (posts_copy touch f e h) = subst IsCoherentState (sym h) (posts_copy_kept w c touch f e k)
goes_kept w c v g n k (copies touch f x counts e nobody at t h) =
    subst IsCoherentState (sym h) (copies_kept w c touch f x counts e nobody k)
goes_kept w c v g n k (installs touch e h) = subst IsCoherentState (sym h) (installs_kept w c touch g e k)
goes_kept w c v g n k (accesses touch f e i h) =
    subst IsCoherentState (sym h) (translating_kept c touch
    (moved w c (Answer (reply_of touch f w.memory)) w.slots (ap awaits_in e) refl refl k))
goes_kept w c v g n k (faults touch e i h) =
    subst IsCoherentState (sym h) (translating_kept c touch
    (moved w c (locking (To.Access touch)) w.slots (ap awaits_in e) refl refl k))

works_kept : (w : World) (c : ℕ) (event : Event) (v : World) → IsCoherentState w → Works w c event v
    → IsCoherentState v
works_kept w c event v k (clears i range e h) = subst IsCoherentState (sym h) (clear_kept c range e k)
works_kept w c event v k (invalidates i range e h) = subst IsCoherentState (sym h) (invalidation_kept c range e k)
works_kept w c event v k (walks p i e h) = subst IsCoherentState (sym h) (walk_kept c p k)
works_kept w c event v k (evicts p i e h) = subst IsCoherentState (sym h) (eviction_kept c p k)
works_kept w c event v k (flushes i report counts t h) = subst IsCoherentState (sym h) k
works_kept w c event v k (reviews i report counts t h) = subst IsCoherentState (sym h) k
works_kept w c event v k (frees i f counts t h) = subst IsCoherentState (sym h) k

-- no message is under way of a call that may be given up
given_up_silent : (w : World) (c : ℕ) (phase : Phase) → w.calls.phase c ≡ phase → can_give_up phase ≡ true → IsUnawaited w.hardware c phase
    → IsCoherentState w → (d : ℕ) → message_of (w.hardware.inbox d) c ≡ None
given_up_silent w c (CopyAcks touch f) e can u k d = silent_by (message_of (w.hardware.inbox d) c) (u d)
given_up_silent w c (Acks goal change) e can u k d = absurd cc
given_up_silent w c _ e can u k d = none_sent w.calls.phase c d (w.hardware.inbox d) (ap awaits_in e) (k.asked d)

shape_kept : (w : World) (e : Event) (o : Outcome) (v : World) → IsOrderly w → AreTakenNew w.slots.info w.calls.phase → IsCoherentState w → Shape w e o v
    → IsCoherentState v
shape_kept w e o v g n k (rests i h) = subst IsCoherentState (sym h) k
shape_kept w e o v g n k (begins c request i s lt p below h) =
    subst IsCoherentState (sym h) (moved w c (Check request) w.slots (ap awaits_in p) refl refl k)
shape_kept w e o v g n k (ends c reply i s lt p h) =
    subst IsCoherentState (sym h) (moved w c Free w.slots (ap awaits_in p) refl refl k)
shape_kept w e o v g n k (goes c i s lt b) = goes_kept w c v g n k b
shape_kept w e o v g n k (aims c place target a s lt p h) =
    subst IsCoherentState (sym h) (moved w c (trying place target) w.slots (ap awaits_in p) refl refl k)
shape_kept w e o v g n k (gives_up c i s lt can u h) =
    let held : Option PageRange = still_held (w.calls.phase c) in
    subst IsCoherentState (sym h)
    (goes_silent c (let_go held NoMemory) (given_up_silent w c (w.calls.phase c) refl can u k) (let_go_still held NoMemory).awaits k)
shape_kept w e o v g n k (works c s lt b) = works_kept w c e v k b
shape_kept w e o v g n k (joins p t i s page j m h) = subst IsCoherentState (sym h) (same_info w.slots t j.info k)

-- the clauses don't look at the number of events
pub coherence_kept : (w v : World) (e : Event) (o : Outcome) → IsOrderly w → AreTakenNew w.slots.info w.calls.phase → IsCoherentState w → Step w e o v
    → IsCoherentState v
coherence_kept w v e o g n k s = go (comes w e o v s)
  where
    go : Comes w e o v → IsCoherentState v
    go (stopped lt i h) = subst IsCoherentState (sym h) k
    go (happens lt h) = shape_kept (with_event w) e o v g n k h

-- ---- a machine over new slots has no translation and no message

pub opening : (made : Made) (slots : Slots) → IsCoherentState (new_world made slots)
opening made slots = record {
  tables = λ d p t i. absurd cc;
  tlbs = λ d. tt;
  asked = λ d. tt;
  dropped = λ c d range a. absurd cc;
}
