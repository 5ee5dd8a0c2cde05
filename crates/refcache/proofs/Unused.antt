-- An unused object stays so until its count begins.
use Rattle.std.proofs.Common.{◌≡◌, ◌≢◌, ℕ, ◌<◌, Bool, true, false, refl, sym, ap, subst, arith, ◌∙◌, ℤ, pos, negsuc, ◌+ℤ◌, ◌<ℤ◌, List, Some}
use Rattle.std.proofs.Common.{None, ◌⊎◌, inl, inr}
use Rattle.std.proofs.lemmas.Int.{ints}
use Rattle.refcache.specs.declared.reports.Queued.{Queued}
use Rattle.refcache.specs.declared.reports.Flush.{Flush}
use Rattle.refcache.specs.declared.reports.Review.{Review}
use Rattle.refcache.specs.declared.reports.Flush.TheVariants as flush
use Rattle.refcache.specs.declared.reports.Review.TheVariants as review
use Rattle.vm_base.proofs.Functions.{put_all, put_other}
use Rattle.refcache.specs.Counts.{Counts, delta_of, true_count, enqueued, unqueued, drained, evicted, added, begun}
use Rattle.refcache.specs.Steps.{Begin, Inc, Dec, Flushing, Reviewing, MakesRoom, HasEntry, IsUnused, Flushes, Reviews}
use Rattle.refcache.specs.Sound.{AreReached}
use Rattle.refcache.specs.Laws.{UnusedStays}
use Rattle.refcache.proofs.Sums.{same_or_not, cell_column}
use Rattle.refcache.proofs.Queues.{by_notice}
use Rattle.refcache.proofs.TrueCount.{count_drained, count_added_other, count_begun_other}
use Rattle.refcache.proofs.Sound.{queued_front}

unused_drained : (c q o : ℕ) (v : Counts) → c < v.cores → o ≢ q → IsUnused v o → IsUnused (drained c q v) o
unused_drained c q o v lt ne u = record {
  zero = count_drained c q v lt o ∙ u.zero;
  entries = λ j less. cell_column v.delta c q None j o ne ∙ u.entries j less;
  unqueued = u.unqueued;
}

unused_enqueued : (c q o : ℕ) (v : Counts) → o ≢ q → IsUnused v o → IsUnused (enqueued c q v) o
unused_enqueued c q o v ne u = record { zero = u.zero; entries = u.entries; unqueued = put_other v.queued q true o ne ∙ u.unqueued }

unused_unqueued : (c q o : ℕ) (rest : List Queued) (v : Counts) → IsUnused v o → IsUnused (unqueued c q rest v) o
unused_unqueued c q o rest v u = record {
  zero = u.zero;
  entries = u.entries;
  unqueued = put_all (λ j b. v.queued j ≡ false → b ≡ false) v.queued q false (λ _. refl) (λ j _ e. e) o u.unqueued;
}

unused_evicted : (c q o : ℕ) (v : Counts) → c < v.cores → HasEntry v c q → IsUnused v o → IsUnused (evicted c q v) o
unused_evicted c q o v lt has u =
    let ne : o ≢ q = λ e. has (ap (v.delta c) (sym e) ∙ u.entries c lt) in
    let d = unused_drained c q o v lt ne u in
    by_notice (λ w. IsUnused w o) c q (drained c q v) (λ _ _. record { zero = d.zero; entries = d.entries; unqueued = d.unqueued })
    (λ _ _. unused_enqueued c q o (drained c q v) ne d) (λ _. d)

unused_added : (c p o : ℕ) (by : ℤ) (m : Counts) → o ≢ p → IsUnused m o → IsUnused (added c p by m) o
unused_added c p o by m ne u = record {
  zero = count_added_other c p by m o ne ∙ u.zero;
  entries = λ j less. cell_column m.delta c p (Some (delta_of m c p +ℤ by)) j o ne ∙ u.entries j less;
  unqueued = u.unqueued;
}

unused_add : (v : Counts) (c p o : ℕ) (by : ℤ) (m : Counts) → c < v.cores → pos 0 <ℤ true_count v p → MakesRoom v c p by m → IsUnused v o
    → IsUnused (added c p by m) o
unused_add v c p o by m lt more h u = unused_added c p o by m ne (room h)
  where
    ne : o ≢ p
    ne e = let zero : true_count v p ≡ pos 0 = ap (true_count v) (sym e) ∙ u.zero in omega (arith, ints, zero, more)

    room : MakesRoom v c p by m → IsUnused m o
    room (inl h) = subst (λ w. IsUnused w o) (sym h.1) u
    room (inr h) = subst (λ w. IsUnused w o) (sym h.2) (unused_evicted c h.0 o v lt h.1.entry u)

unused_flush : (v : Counts) (c : ℕ) (r : Flush) (w : Counts) (o : ℕ) → c < v.cores → Flushes v c r w → IsUnused v o → IsUnused w o
unused_flush v c (flush.Evicted p) w o lt h u = subst (λ z. IsUnused z o) (sym h.2) (unused_evicted c p o v lt h.0 u)
unused_flush v c flush.Flushed w o lt h u = subst (λ z. IsUnused z o) (sym h.3) (record { zero = u.zero; entries = u.entries; unqueued = u.unqueued })
unused_flush v c flush.EpochEnded w o lt h u = subst (λ z. IsUnused z o) (sym h.4) (record { zero = u.zero; entries = u.entries; unqueued = u.unqueued })
unused_flush v c flush.Idle w o lt h u = subst (λ z. IsUnused z o) (sym h.2) u

unused_review : (v : Counts) (c : ℕ) (r : Review) (w : Counts) (o : ℕ) → AreReached v → Reviews v c r w → IsUnused v o → IsUnused w o
unused_review v c (review.Freed p) w o reached h u = subst (λ z. IsUnused z o) (sym h.4) (unused_unqueued c p o h.0 v u)
unused_review v c (review.Requeued p) w o reached h u =
    subst (λ z. IsUnused z o) (sym h.4)
    (unused_enqueued c p o (unqueued c p h.0 v) (λ e. clash (queued_front v c p h.1.since h.0 reached h.1.front) (ap v.queued (sym e)
    ∙ u.unqueued)) (unused_unqueued c p o h.0 v u))
  where
    clash : {b : Bool} → b ≡ true → b ≡ false → ⊥
    clash x y = cc
unused_review v c (review.Dropped p) w o reached h u = subst (λ z. IsUnused z o) (sym h.3) (unused_unqueued c p o h.0 v u)
unused_review v c review.Idle w o reached h u = subst (λ z. IsUnused z o) (sym h.1) u

pub unused_stays : UnusedStays
unused_stays v (Begin p k) w o reached h u other = subst (λ z. IsUnused z o) (sym h.3) (go (same_or_not o p))
  where
    go : (o ≡ p) ⊎ (o ≢ p) → IsUnused (begun p k v) o
    go (inl e) = absurd (other k (ap (λ z. Begin z k) (sym e)))
    go (inr ne) = record { zero = count_begun_other p k v o ne ∙ u.zero; entries = u.entries; unqueued = u.unqueued }
unused_stays v (Inc c p) w o reached h u other = subst (λ z. IsUnused z o) (sym h.1.4) (unused_add v c p o (pos 1) h.1.2 h.1.0 h.1.1 h.1.3 u)
unused_stays v (Dec c p) w o reached h u other = subst (λ z. IsUnused z o) (sym h.4) (unused_add v c p o (negsuc 0) h.2 h.0 h.1 h.3 u)
unused_stays v (Flushing c r) w o reached h u other = unused_flush v c r w o h.0 h.1 u
unused_stays v (Reviewing c r) w o reached h u other = unused_review v c r w o reached h.1 u
