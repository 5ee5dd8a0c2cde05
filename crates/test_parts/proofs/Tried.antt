-- Steps beside a list of true counts.
use Rattle.std.proofs.Common.{◌≡◌, ◌≢◌, ℕ, ◌≤◌, ◌<◌, ◌+◌, ◌-◌, ◌==◌, ◌^◌, Bool, true, false, refl, sym, ap, subst, arith, ◌∙◌, cond, ℤ}
use Rattle.std.proofs.Common.{pos, negsuc, ◌+ℤ◌, ◌<ℤ◌, List, length, slice_index_or, slice_set, ◌⊎◌, inl, inr}
use Rattle.std.specs.List.{All}
use Rattle.std.proofs.lemmas.Int.{ints}
use Rattle.std.proofs.lemmas.List.{get_or-set_same, get_or-set_other, length-set}
use Rattle.vm_base.proofs.Functions.{by_test, eq_true, eq_false}
use Rattle.refcache.specs.declared.reports.Flush.{Flush}
use Rattle.refcache.specs.declared.reports.Review.{Review}
use Rattle.refcache.specs.Counts.{Counts, no_counts, true_count, begun}
use Rattle.refcache.specs.Steps.{Begin, Inc, Dec, Flushing, Reviewing, Takes, IsUnused, CountStep}
use Rattle.refcache.specs.Laws.{change}
use Rattle.refcache.specs.Parts.{Parts, counts_of}
use Rattle.test_parts.specs.Tried.{IsTrial}
use Rattle.refcache.proofs.Sums.{same_or_not}
use Rattle.refcache.proofs.Queues.{Later, later}
use Rattle.refcache.proofs.TrueCount.{count_clear, count_begun_other}
use Rattle.refcache.proofs.Moves.{true_counts_move}

unused_open : (n m o : ℕ) → IsUnused (no_counts n m) o
unused_open n m o = record { zero = count_clear (no_counts n m) o (λ c lt. refl); entries = λ c lt. refl; unqueued = refl }

unused_begun : (v : Counts) (p k o : ℕ) → o ≢ p → IsUnused v o → IsUnused (begun p k v) o
unused_begun v p k o ne u = record { zero = count_begun_other p k v o ne ∙ u.zero; entries = u.entries; unqueued = u.unqueued }

pub trial_open : (p : Parts) (n m : ℕ) (trues : List ℕ) → n ≤ 64 → counts_of p ≡ no_counts n m → length trues ≡ m → All (λ k. k ≡ 0) trues
    → IsTrial p n trues true
trial_open p n m trues few e count zeros = record {
  same_cores = ap (λ v. v.cores) e;
  few = few;
  same_objects = ap (λ v. v.objects) e ∙ sym count;
  exact = λ o lt. (unused o).zero ∙ ap pos (sym (zeros o 0 lt));
  unused = λ _ o _ _. unused o;
}
  where
    unused : (o : ℕ) → IsUnused (counts_of p) o
    unused o = subst (λ v. IsUnused v o) (sym e) (unused_open n m o)

trial_on : (p q : Parts) (s : CountStep) (n : ℕ) (xs ys : List ℕ) (fresh : Bool) → IsTrial p n xs fresh → Takes (counts_of p) s (counts_of q)
    → length ys ≡ length xs → ((o : ℕ) → o < length xs → pos (slice_index_or ys o 0) ≡ pos (slice_index_or xs o 0) +ℤ change s o) → IsTrial q n ys false
trial_on p q s n xs ys fresh f t count moves = record {
  same_cores = l.cores ∙ f.same_cores;
  few = f.few;
  same_objects = l.objects ∙ f.same_objects ∙ sym count;
  exact = λ o lt. let there : o < length xs = omega (arith, lt, count) in
      true_counts_move (counts_of p) s (counts_of q) t o ∙ ap (λ z. z +ℤ change s o) (f.exact o there) ∙ sym (moves o there);
  unused = λ e. absurd (clash e);
}
  where
    l : Later (counts_of p) (counts_of q)
    l = later (counts_of p) s (counts_of q) t

    clash : false ≡ true → ⊥
    clash z = cc

nothing : (z : ℤ) → z ≡ z +ℤ pos 0
nothing z = omega (arith, ints)

pub trial_flushed : (p q : Parts) (c : ℕ) (r : Flush) (n : ℕ) (xs : List ℕ) (fresh : Bool) → IsTrial p n xs fresh
    → Takes (counts_of p) (Flushing c r) (counts_of q) → IsTrial q n xs false
trial_flushed p q c r n xs fresh f t = trial_on p q (Flushing c r) n xs xs fresh f t refl (λ o _. nothing (pos (slice_index_or xs o 0)))

pub trial_reviewed : (p q : Parts) (c : ℕ) (r : Review) (n : ℕ) (xs : List ℕ) (fresh : Bool) → IsTrial p n xs fresh
    → Takes (counts_of p) (Reviewing c r) (counts_of q) → IsTrial q n xs false
trial_reviewed p q c r n xs fresh f t = trial_on p q (Reviewing c r) n xs xs fresh f t refl (λ o _. nothing (pos (slice_index_or xs o 0)))

-- one item of the list is set
set_moves : (xs : List ℕ) (o k : ℕ) (d : ℤ) → o < length xs → pos k ≡ pos (slice_index_or xs o 0) +ℤ d
    → (j : ℕ) → j < length xs → pos (slice_index_or (slice_set xs o k) j 0) ≡ pos (slice_index_or xs j 0) +ℤ cond (j == o) d (pos 0)
set_moves xs o k d inside e j lt =
    by_test (λ z. pos (slice_index_or (slice_set xs o k) j 0) ≡ pos (slice_index_or xs j 0) +ℤ z) (j == o) d (pos 0)
    (λ t. subst (λ i. pos (slice_index_or (slice_set xs o k) i 0) ≡ pos (slice_index_or xs i 0) +ℤ d) (sym (eq_true j o t))
    (ap pos (get_or-set_same xs o k 0 inside) ∙ e))
    (λ t. ap pos (get_or-set_other xs o j k 0 (eq_false j o t)) ∙ nothing (pos (slice_index_or xs j 0)))

pub trial_up : (p q : Parts) (c o : ℕ) (n : ℕ) (xs : List ℕ) (fresh : Bool) → IsTrial p n xs fresh → Takes (counts_of p) (Inc c o) (counts_of q) → o < length xs
    → IsTrial q n (slice_set xs o (slice_index_or xs o 0 + 1)) false
trial_up p q c o n xs fresh f t inside =
    trial_on p q (Inc c o) n xs (slice_set xs o (slice_index_or xs o 0 + 1)) fresh f t (length-set xs o (slice_index_or xs o 0 + 1))
    (set_moves xs o (slice_index_or xs o 0 + 1) (pos 1) inside (omega (arith, ints)))

pub trial_down : (p q : Parts) (c o : ℕ) (n : ℕ) (xs : List ℕ) (fresh : Bool) → IsTrial p n xs fresh
    → Takes (counts_of p) (Dec c o) (counts_of q) → o < length xs → 0 < slice_index_or xs o 0
    → IsTrial q n (slice_set xs o (slice_index_or xs o 0 - 1)) false
trial_down p q c o n xs fresh f t inside some =
    trial_on p q (Dec c o) n xs (slice_set xs o (slice_index_or xs o 0 - 1)) fresh f t (length-set xs o (slice_index_or xs o 0 - 1))
    (set_moves xs o (slice_index_or xs o 0 - 1) (negsuc 0) inside (omega (arith, ints, some)))

pub trial_begun : (p q : Parts) (o k : ℕ) (n : ℕ) (xs : List ℕ) → IsTrial p n xs true → Takes (counts_of p) (Begin o k) (counts_of q)
    → o < length xs → slice_index_or xs o 0 ≡ 0 → 0 < k
    → IsTrial q n (slice_set xs o k) true
trial_begun p q o k n xs f t inside none some = record {
  same_cores = g.same_cores;
  few = g.few;
  same_objects = g.same_objects;
  exact = g.exact;
  unused = λ _ j lt zero. go j (omega (arith, lt, len)) zero (same_or_not j o);
}
  where
    g : IsTrial q n (slice_set xs o k) false
    g = trial_on p q (Begin o k) n xs (slice_set xs o k) true f t (length-set xs o k) (set_moves xs o k (pos k) inside (omega (arith, ints, none)))

    len : length (slice_set xs o k) ≡ length xs
    len = length-set xs o k

    go : (j : ℕ) → j < length xs → slice_index_or (slice_set xs o k) j 0 ≡ 0 → (j ≡ o) ⊎ (j ≢ o) → IsUnused (counts_of q) j
    go j lt zero (inl e) = absurd (let there : k ≡ 0 = sym (get_or-set_same xs o k 0 inside)
        ∙ ap (λ i. slice_index_or (slice_set xs o k) i 0) (sym e) ∙ zero in omega (arith, there, some))
    go j lt zero (inr ne) =
        subst (λ v. IsUnused v j) (sym t.3) (unused_begun (counts_of p) o k j ne (f.unused refl j lt (sym (get_or-set_other xs o j k 0 ne) ∙ zero)))

-- what the list says of the true count, as the calls ask it
pub trial_used : (p : Parts) (n : ℕ) (xs : List ℕ) (fresh : Bool) (o : ℕ) → IsTrial p n xs fresh → o < length xs
    → 0 < slice_index_or xs o 0 → pos 0 <ℤ true_count (counts_of p) o
trial_used p n xs fresh o f lt some = let e = f.exact o lt in omega (arith, ints, e, some)

pub trial_few : (p : Parts) (n : ℕ) (xs : List ℕ) (fresh : Bool) (o : ℕ) → IsTrial p n xs fresh → o < length xs
    → slice_index_or xs o 0 < 2 ^ 40 → true_count (counts_of p) o <ℤ pos (2 ^ 40)
trial_few p n xs fresh o f lt few = let e = f.exact o lt in omega (arith, ints, e, few)
