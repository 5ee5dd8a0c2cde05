-- Counts that a run reached go one way by a step
use Rattle.std.proofs.Common.{◌≡◌, ℕ, zero, suc, ◌+◌, ◌<◌, inl, inr, ℤ, List, [], ◌∷◌, Option, Some, None, refl, sym, subst, ap, ◌∙◌, arith}
use Rattle.refcache.specs.declared.reports.Queued.{Queued}
use Rattle.refcache.specs.declared.reports.Flush.{Flush}
use Rattle.refcache.specs.declared.reports.Review.{Review}
use Rattle.refcache.specs.declared.reports.Flush.TheVariants as flush
use Rattle.refcache.specs.declared.reports.Review.TheVariants as review
use Rattle.refcache.specs.Counts.{Counts, added, enqueued, evicted, unqueued}
use Rattle.refcache.specs.Sound.{AreReached}
use Rattle.refcache.specs.Steps.{Adds, Begin, CountStep, Dec, Flushes, Flushing, Inc, IsQuiet, IsReviewDue, MakesRoom, Reviewing, Reviews, Takes}
use Rattle.refcache.proofs.Sound.{known}
use Rattle.refcache.proofs.Reached.{steps_reach}
use Rattle.slot_lock.proofs.Facts.{two}
use Rattle.machine_model.specs.Counting.{CountsDown, CountsOne}
use Rattle.machine_model.specs.Filling.{CountsCopy}

-- ---- counting up and down

one_gone : (v : Counts) (c o : ℕ) (by : ℤ) (m n : Counts) → AreReached v → MakesRoom v c o by m → MakesRoom v c o by n → m ≡ n
one_gone v c o by m n r (inl h) (inl k) = h.1 ∙ sym k.1
one_gone v c o by m n r (inl h) (inr k) = absurd (h.0 k.0 k.1)
one_gone v c o by m n r (inr h) (inl k) = absurd (k.0 h.0 h.1)
one_gone v c o by m n r (inr h) (inr k) =
    let same = ((known v r).held.rows c).alone h.0 k.0 h.1.entry k.1.entry (h.1.place ∙ sym k.1.place) in
    h.2 ∙ ap (λ p. evicted c p v) same ∙ sym k.2

one_sum : (v : Counts) (c o : ℕ) (by : ℤ) (w x : Counts) → AreReached v → Adds v c o by w → Adds v c o by x → w ≡ x
one_sum v c o by w x r h k = h.4 ∙ ap (added c o by) (one_gone v c o by h.2 k.2 r h.3 k.3) ∙ sym k.4

-- ---- what flushes and reviews report

one_flushed : (v : Counts) (c : ℕ) (p q : Flush) (w x : Counts) → Flushes v c p w → Flushes v c q x → p ≡ q
one_flushed v c (flush.Evicted o) (flush.Evicted u) w x h k =
    let not_below : ¬ o < u = λ l. h.0 (k.1 o l) in
    let not_above : ¬ u < o = λ l. k.0 (h.1 u l) in
    let same : o ≡ u = omega (arith, not_below, not_above) in
    ap flush.Evicted same
one_flushed v c (flush.Evicted o) flush.Flushed w x h k = absurd (h.0 (k.0 o))
one_flushed v c (flush.Evicted o) flush.EpochEnded w x h k = absurd (h.0 (k.0 o))
one_flushed v c (flush.Evicted o) flush.Idle w x h k = absurd (h.0 (k.0 o))
one_flushed v c flush.Flushed (flush.Evicted u) w x h k = absurd (k.0 (h.0 u))
one_flushed v c flush.Flushed flush.Flushed w x h k = refl
one_flushed v c flush.Flushed flush.EpochEnded w x h k = absurd (h.2 k.2)
one_flushed v c flush.Flushed flush.Idle w x h (none, inl done, is) = absurd (two _ h.1 done)
one_flushed v c flush.Flushed flush.Idle w x h (none, inr last, is) = absurd (h.2 last.0)
one_flushed v c flush.EpochEnded (flush.Evicted u) w x h k = absurd (k.0 (h.0 u))
one_flushed v c flush.EpochEnded flush.Flushed w x h k = absurd (k.2 h.2)
one_flushed v c flush.EpochEnded flush.EpochEnded w x h k = refl
one_flushed v c flush.EpochEnded flush.Idle w x h (none, inl done, is) = absurd (two _ h.1 done)
one_flushed v c flush.EpochEnded flush.Idle w x h (none, inr last, is) = absurd (h.3 last.1)
one_flushed v c flush.Idle (flush.Evicted u) w x h k = absurd (k.0 (h.0 u))
one_flushed v c flush.Idle flush.Flushed w x (none, inl done, is) k = absurd (two _ k.1 done)
one_flushed v c flush.Idle flush.Flushed w x (none, inr last, is) k = absurd (k.2 last.0)
one_flushed v c flush.Idle flush.EpochEnded w x (none, inl done, is) k = absurd (two _ k.1 done)
one_flushed v c flush.Idle flush.EpochEnded w x (none, inr last, is) k = absurd (k.3 last.1)
one_flushed v c flush.Idle flush.Idle w x h k = refl

tail_of : List Queued → List Queued
tail_of [] = []
tail_of (x ∷ xs) = xs

head_of : List Queued → ℕ
head_of [] = 0
head_of (x ∷ xs) = x.object

-- the front of a queue
one_front : (v : Counts) (c o u : ℕ) (rest more : List Queued) → IsReviewDue v c o rest → IsReviewDue v c u more → (o ≡ u) × (rest ≡ more)
unfolding head_of tail_of
one_front v c o u rest more h k = (ap head_of (sym h.front ∙ k.front), ap tail_of (sym h.front ∙ k.front))

not_quiet : (v : Counts) (c o : ℕ) (rest : List Queued) → IsReviewDue v c o rest → IsQuiet v.epoch (v.queue c) → ⊥
not_quiet v c o rest h quiet =
    let soon : v.epoch < h.since + 2 = subst (IsQuiet v.epoch) h.front quiet in
    let time = h.time in
    omega (arith, soon, time)

one_reviewed : (v : Counts) (c : ℕ) (p q : Review) (w x : Counts) → Reviews v c p w → Reviews v c q x → p ≡ q
one_reviewed v c (review.Freed o) (review.Freed u) w x h k = ap review.Freed (one_front v c o u h.0 k.0 h.1 k.1).0
one_reviewed v c (review.Requeued o) (review.Requeued u) w x h k = ap review.Requeued (one_front v c o u h.0 k.0 h.1 k.1).0
one_reviewed v c (review.Dropped o) (review.Dropped u) w x h k = ap review.Dropped (one_front v c o u h.0 k.0 h.1 k.1).0
one_reviewed v c review.Idle review.Idle w x h k = refl
one_reviewed v c (review.Freed o) (review.Requeued u) w x h k =
    let same = (one_front v c o u h.0 k.0 h.1 k.1).0 in absurd (two (v.dirty u) (ap v.dirty (sym same) ∙ h.3) k.3)
one_reviewed v c (review.Requeued o) (review.Freed u) w x h k =
    let same = (one_front v c o u h.0 k.0 h.1 k.1).0 in absurd (two (v.dirty o) (ap v.dirty same ∙ k.3) h.3)
one_reviewed v c (review.Freed o) (review.Dropped u) w x h k =
    let same = (one_front v c o u h.0 k.0 h.1 k.1).0 in absurd (k.2 (ap v.global (sym same) ∙ h.2))
one_reviewed v c (review.Dropped o) (review.Freed u) w x h k =
    let same = (one_front v c o u h.0 k.0 h.1 k.1).0 in absurd (h.2 (ap v.global same ∙ k.2))
one_reviewed v c (review.Requeued o) (review.Dropped u) w x h k =
    let same = (one_front v c o u h.0 k.0 h.1 k.1).0 in absurd (k.2 (ap v.global (sym same) ∙ h.2))
one_reviewed v c (review.Dropped o) (review.Requeued u) w x h k =
    let same = (one_front v c o u h.0 k.0 h.1 k.1).0 in absurd (h.2 (ap v.global same ∙ k.2))
one_reviewed v c (review.Freed o) review.Idle w x h k = absurd (not_quiet v c o h.0 h.1 k.0)
one_reviewed v c (review.Requeued o) review.Idle w x h k = absurd (not_quiet v c o h.0 h.1 k.0)
one_reviewed v c (review.Dropped o) review.Idle w x h k = absurd (not_quiet v c o h.0 h.1 k.0)
one_reviewed v c review.Idle (review.Freed u) w x h k = absurd (not_quiet v c u k.0 k.1 h.0)
one_reviewed v c review.Idle (review.Requeued u) w x h k = absurd (not_quiet v c u k.0 k.1 h.0)
one_reviewed v c review.Idle (review.Dropped u) w x h k = absurd (not_quiet v c u k.0 k.1 h.0)

pub one_flush : (v : Counts) (c : ℕ) (p q : Flush) (w x : Counts) → Takes v (Flushing c p) w → Takes v (Flushing c q) x → p ≡ q
one_flush v c p q w x h k = one_flushed v c p q w x h.1 k.1

pub one_review : (v : Counts) (c : ℕ) (p q : Review) (w x : Counts) → Takes v (Reviewing c p) w → Takes v (Reviewing c q) x → p ≡ q
one_review v c p q w x h k = one_reviewed v c p q w x h.1 k.1

-- ---- a step

after_flush : (v : Counts) (c : ℕ) (p : Flush) (w x : Counts) → Flushes v c p w → Flushes v c p x → w ≡ x
after_flush v c (flush.Evicted o) w x h k = h.2 ∙ sym k.2
after_flush v c flush.Flushed w x h k = h.3 ∙ sym k.3
after_flush v c flush.EpochEnded w x h k = h.4 ∙ sym k.4
after_flush v c flush.Idle w x h k = h.2 ∙ sym k.2

after_review : (v : Counts) (c : ℕ) (p : Review) (w x : Counts) → Reviews v c p w → Reviews v c p x → w ≡ x
after_review v c (review.Freed o) w x h k = h.4 ∙ ap (λ r. unqueued c o r v) (one_front v c o o h.0 k.0 h.1 k.1).1 ∙ sym k.4
after_review v c (review.Requeued o) w x h k = h.4 ∙ ap (λ r. enqueued c o (unqueued c o r v)) (one_front v c o o h.0 k.0 h.1 k.1).1 ∙ sym k.4
after_review v c (review.Dropped o) w x h k = h.3 ∙ ap (λ r. unqueued c o r v) (one_front v c o o h.0 k.0 h.1 k.1).1 ∙ sym k.3
after_review v c review.Idle w x h k = h.1 ∙ sym k.1

-- a step of the counts leads to one state of them
pub one_taken : (v : Counts) (step : CountStep) (w x : Counts) → AreReached v → Takes v step w → Takes v step x → w ≡ x
one_taken v (Begin o k) w x r h t = h.3 ∙ sym t.3
one_taken v (Inc c o) w x r h t = one_sum v c o _ w x r h.1 t.1
one_taken v (Dec c o) w x r h t = one_sum v c o _ w x r h t
one_taken v (Flushing c p) w x r h t = after_flush v c p w x h.1 t.1
one_taken v (Reviewing c p) w x r h t = after_review v c p w x h.1 t.1

-- ---- several steps

one_counted : (c : ℕ) (frame : Option ℕ) (v w x : Counts) → AreReached v → CountsOne c frame v w → CountsOne c frame v x → (w ≡ x) × AreReached w
one_counted c None v w x r h k = (h ∙ sym k, subst AreReached (sym h) r)
one_counted c (Some f) v w x r h k = (one_taken v (Dec c f) w x r h k, steps_reach v (Dec c f) w r h)

pub one_down : (c : ℕ) (frame : ℕ → Option ℕ) (first n : ℕ) (v w x : Counts) → AreReached v → CountsDown c frame first n v w → CountsDown c frame first n v x
    → w ≡ x
unfolding CountsDown
one_down c frame first zero v w x r h k = h ∙ sym k
one_down c frame first (suc n) v w x r h k =
    let same = one_counted c (frame first) v h.0 k.0 r h.1 k.1 in
    one_down c frame (suc first) n h.0 w x same.1 h.2 (subst (λ m. CountsDown c frame (suc first) n m x) (sym same.0) k.2)

pub one_copied : (c f g : ℕ) (v w x : Counts) → AreReached v → CountsCopy c f g v w → CountsCopy c f g v x → w ≡ x
one_copied c f g v w x r h k =
    let same = one_taken v (Begin f 1) h.0 k.0 r h.1 k.1 in
    one_taken h.0 (Dec c g) w x (steps_reach v (Begin f 1) h.0 r h.1) h.2 (subst (λ m. Takes m (Dec c g) x) (sym same) k.2)
