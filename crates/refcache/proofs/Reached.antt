-- What callers learn of counts that a run reached, and of one more step.
use Rattle.std.proofs.Common.{◌≡◌, ℕ, ◌<◌, length, refl, ap, ◌∙◌, ℤ, pos, ◌<ℤ◌, inl, inr, subst}
use Rattle.refcache.specs.declared.reports.Flush.TheVariants as flush
use Rattle.refcache.specs.declared.reports.Review.{Review}
use Rattle.refcache.specs.declared.reports.Review.TheVariants as review
use Rattle.refcache.specs.Counts.{Counts, no_counts, added, drained, evicted, true_count}
use Rattle.refcache.specs.Parts.{Parts, counts_of}
use Rattle.refcache.specs.Steps.{Adds, Begin, Inc, Dec, Flushing, Reviewing, MakesRoom, Reviews, Takes}
use Rattle.refcache.specs.Steps.{CountStep}
use Rattle.refcache.specs.Laws.{StepsReach, FreedIsUnused, UnusedAtFirst, SizesStay, IsSameSize, ReachedIsOrderly, epoch_after}
use Rattle.refcache.proofs.Queues.{by_notice, later}
use Rattle.refcache.proofs.Settled.{unused}
use Rattle.refcache.proofs.TrueCount.{count_clear}
use Rattle.refcache.proofs.Sound.{known, queued_front, reached_on, front_below}

pub steps_reach : StepsReach
steps_reach v step w reached takes = reached_on v step w reached takes

pub freed_is_unused : FreedIsUnused
freed_is_unused v core object w reached takes = unused v core object w takes.1 (known v reached).settled

pub unused_at_first : UnusedAtFirst
unused_at_first n m object = record { zero = count_clear (no_counts n m) object (λ c lt. refl); entries = λ c lt. refl; unqueued = refl }

pub same_size : (v : Counts) (step : CountStep) (w : Counts) → Takes v step w → IsSameSize v w
same_size v step w takes = let l = later v step w takes in (l.cores, l.objects)

epoch_evicted : (c o : ℕ) (v : Counts) → (evicted c o v).epoch ≡ v.epoch
epoch_evicted c o v = by_notice (λ w. w.epoch ≡ v.epoch) c o (drained c o v) (λ _ _. refl) (λ _ _. refl) (λ _. refl)

epoch_way : (v : Counts) (c o : ℕ) (by : ℤ) (m : Counts) → MakesRoom v c o by m → m.epoch ≡ v.epoch
epoch_way v c o by m (inl h) = ap (λ z. z.epoch) h.1
epoch_way v c o by m (inr h) = ap (λ z. z.epoch) h.2 ∙ epoch_evicted c h.0 v

epoch_review : (v : Counts) (c : ℕ) (r : Review) (w : Counts) → Reviews v c r w → w.epoch ≡ v.epoch
epoch_review v c (review.Freed o) w h = ap (λ z. z.epoch) h.4
epoch_review v c (review.Requeued o) w h = ap (λ z. z.epoch) h.4
epoch_review v c (review.Dropped o) w h = ap (λ z. z.epoch) h.3
epoch_review v c review.Idle w h = ap (λ z. z.epoch) h.1

epochs : (v : Counts) (step : CountStep) (w : Counts) → Takes v step w → w.epoch ≡ epoch_after step v.epoch
epochs v (Begin o k) w h = ap (λ z. z.epoch) h.3
epochs v (Inc c o) w h = ap (λ z. z.epoch) h.1.4 ∙ epoch_way v c o _ h.1.2 h.1.3
epochs v (Dec c o) w h = ap (λ z. z.epoch) h.4 ∙ epoch_way v c o _ h.2 h.3
epochs v (Flushing c (flush.Evicted o)) w h = ap (λ z. z.epoch) h.1.2 ∙ epoch_evicted c o v
epochs v (Flushing c flush.Flushed) w h = ap (λ z. z.epoch) h.1.3
epochs v (Flushing c flush.EpochEnded) w h = ap (λ z. z.epoch) h.1.4
epochs v (Flushing c flush.Idle) w h = ap (λ z. z.epoch) h.1.2
epochs v (Reviewing c r) w h = epoch_review v c r w h.1

pub sizes_stay : SizesStay
sizes_stay v step w takes = (same_size v step w takes, epochs v step w takes)

pub reached_is_orderly : ReachedIsOrderly
reached_is_orderly v reached = record {
  counts = (known v reached).counted;
  entries = λ c o has. ((known v reached).held.rows c).inside o has;
  fronts = λ c o since rest front. (front_below v c (record { object = o; epoch = since }) rest reached front, queued_front v c o since rest reached front);
}

-- what a count made of counts that are known under another name, by a core that is known by its number
pub adds_again : (p v q : Parts) (c k o : ℕ) (by : ℤ) → p ≡ v → k ≡ c → c < length v.cores → o < length v.objects
    → pos 0 <ℤ true_count (counts_of v) o → (m : Counts) × MakesRoom (counts_of p) k o by m × (counts_of q ≡ added k o by m)
    → Adds (counts_of v) c o by (counts_of q)
adds_again p v q c k o by same e core object used h =
    let here = subst (λ (u : Parts). (m : Counts) × MakesRoom (counts_of u) k o by m × (counts_of q ≡ added k o by m)) same h in
    let there = subst (λ (i : ℕ). (m : Counts) × MakesRoom (counts_of v) i o by m × (counts_of q ≡ added i o by m)) e here in
    (core, used, there.0, there.1, there.2, object)
