-- How the steps move true counts.
use Rattle.std.proofs.Common.{◌≡◌, ℕ, ◌<◌, ◌==◌, cond, sym, ap, subst, arith, ℤ, pos, negsuc, ◌+ℤ◌, ◌∙◌, inl, inr}
use Rattle.std.proofs.lemmas.Int.{ints}
use Rattle.refcache.specs.declared.reports.Flush.{Flush}
use Rattle.refcache.specs.declared.reports.Review.{Review}
use Rattle.refcache.specs.declared.reports.Flush.TheVariants as flush
use Rattle.refcache.specs.declared.reports.Review.TheVariants as review
use Rattle.refcache.specs.Counts.{Counts, true_count, drained, added, begun}
use Rattle.refcache.proofs.Queues.{by_notice}
use Rattle.refcache.specs.Steps.{Begin, Inc, Dec, Flushing, Reviewing, MakesRoom, IsUnused, Flushes, Reviews}
use Rattle.refcache.specs.Laws.{TrueCountsMove}
use Rattle.vm_base.proofs.Functions.{by_test, eq_true, eq_false, put_same}
use Rattle.refcache.proofs.TrueCount.{count_evicted, count_added, count_added_other, count_begun_other, count_clear}

nothing : (z : ℤ) → z ≡ z +ℤ pos 0
nothing z = omega (arith, ints)

move_begun : (v : Counts) (p k : ℕ) → IsUnused v p → (o : ℕ) → true_count (begun p k v) o ≡ true_count v o +ℤ cond (o == p) (pos k) (pos 0)
move_begun v p k u o =
    by_test (λ z. true_count (begun p k v) o ≡ true_count v o +ℤ z) (o == p) (pos k) (pos 0)
    (λ t. subst (λ z. true_count (begun p k v) z ≡ true_count v z +ℤ pos k) (sym (eq_true o p t)) (
    let new : true_count (begun p k v) p ≡ pos k = count_clear (begun p k v) p u.entries ∙ put_same v.global p (pos k) in
    let old : true_count v p ≡ pos 0 = u.zero in
    omega (arith, ints, new, old)))
    (λ t. count_begun_other p k v o (eq_false o p t) ∙ nothing (true_count v o))

move_added : (m : Counts) (c p : ℕ) (by : ℤ) → c < m.cores → (o : ℕ) → true_count (added c p by m) o ≡ true_count m o +ℤ cond (o == p) by (pos 0)
move_added m c p by lt o =
    by_test (λ z. true_count (added c p by m) o ≡ true_count m o +ℤ z) (o == p) by (pos 0)
    (λ t. subst (λ z. true_count (added c p by m) z ≡ true_count m z +ℤ by) (sym (eq_true o p t)) (count_added c p by m lt))
    (λ t. count_added_other c p by m o (eq_false o p t) ∙ nothing (true_count m o))

-- room is made by an eviction, which moves no true count
move_room : (v : Counts) (c p : ℕ) (by : ℤ) (m : Counts) → c < v.cores → MakesRoom v c p by m → (o : ℕ) → true_count m o ≡ true_count v o
move_room v c p by m lt (inl h) o = ap (λ w. true_count w o) h.1
move_room v c p by m lt (inr h) o = ap (λ w. true_count w o) h.2 ∙ count_evicted c h.0 v lt o

cores_room : (v : Counts) (c p : ℕ) (by : ℤ) (m : Counts) → c < v.cores → MakesRoom v c p by m → c < m.cores
cores_room v c p by m lt (inl h) = subst (λ w. c < w.cores) (sym h.1) lt
cores_room v c p by m lt (inr h) = subst (λ w. c < w.cores) (sym h.2) (by_notice (λ w. c < w.cores) c h.0 (drained c h.0 v) (λ _ _. lt) (λ _ _. lt) (λ _. lt))

move_add : (v : Counts) (c p : ℕ) (by : ℤ) (m : Counts) → c < v.cores → MakesRoom v c p by m → (o : ℕ)
    → true_count (added c p by m) o ≡ true_count v o +ℤ cond (o == p) by (pos 0)
move_add v c p by m lt h o =
    move_added m c p by (cores_room v c p by m lt h) o ∙ ap (λ z. z +ℤ cond (o == p) by (pos 0)) (move_room v c p by m lt h o)

move_flush : (v : Counts) (c : ℕ) (r : Flush) (w : Counts) → c < v.cores → Flushes v c r w → (o : ℕ) → true_count w o ≡ true_count v o
move_flush v c (flush.Evicted p) w lt h o = ap (λ z. true_count z o) h.2 ∙ count_evicted c p v lt o
move_flush v c flush.Flushed w lt h o = ap (λ z. true_count z o) h.3
move_flush v c flush.EpochEnded w lt h o = ap (λ z. true_count z o) h.4
move_flush v c flush.Idle w lt h o = ap (λ z. true_count z o) h.2

move_review : (v : Counts) (c : ℕ) (r : Review) (w : Counts) → Reviews v c r w → (o : ℕ) → true_count w o ≡ true_count v o
move_review v c (review.Freed p) w h o = ap (λ z. true_count z o) h.4
move_review v c (review.Requeued p) w h o = ap (λ z. true_count z o) h.4
move_review v c (review.Dropped p) w h o = ap (λ z. true_count z o) h.3
move_review v c review.Idle w h o = ap (λ z. true_count z o) h.1

pub true_counts_move : TrueCountsMove
true_counts_move v (Begin p k) w h o = subst (λ z. true_count z o ≡ true_count v o +ℤ cond (o == p) (pos k) (pos 0)) (sym h.3) (move_begun v p k h.0 o)
true_counts_move v (Inc c p) w h o = subst (λ z. true_count z o ≡ true_count v o +ℤ cond (o == p) (pos 1) (pos 0)) (sym h.1.4)
    (move_add v c p (pos 1) h.1.2 h.1.0 h.1.3 o)
true_counts_move v (Dec c p) w h o = subst (λ z. true_count z o ≡ true_count v o +ℤ cond (o == p) (negsuc 0) (pos 0)) (sym h.4)
    (move_add v c p (negsuc 0) h.2 h.0 h.3 o)
true_counts_move v (Flushing c r) w h o = move_flush v c r w h.0 h.1 o ∙ nothing (true_count v o)
true_counts_move v (Reviewing c r) w h o = move_review v c r w h.1 o ∙ nothing (true_count v o)
