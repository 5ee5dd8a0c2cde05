-- True counts over the actions: only counting up, counting down and beginning anew move them.
use Rattle.std.proofs.Common.{◌≡◌, ◌≢◌, ℕ, zero, suc, ◌<◌, refl, sym, ap, subst, arith, ℤ, pos, ◌+ℤ◌, ◌∙◌, Option, Some, None, unwrap_or, ◌⊎◌, inl, inr}
use Rattle.std.proofs.lemmas.Int.{ints}
use Rattle.vm_base.specs.Functions.{put}
use Rattle.refcache.specs.Sums.{sum_below}
use Rattle.refcache.specs.Counts.{Counts, delta_of, true_count, drained, noticed, evicted, added, begun}
use Rattle.vm_base.proofs.Functions.{put_same, put_other}
use Rattle.refcache.proofs.Sums.{same_or_not, cell_same, cell_row, cell_column, sum_same, sum_zero, sum_moves}
use Rattle.refcache.proofs.Queues.{by_notice}

abbrev value : Option ℤ → ℤ
value d = unwrap_or d (pos 0)

-- one cell of the deltas changes: the sum over the cores follows
sum_cell : (v : Counts) (c o : ℕ) (d : Option ℤ) → c < v.cores
    → sum_below v.cores (λ j. value (put v.delta c (put (v.delta c) o d) j o)) +ℤ delta_of v c o ≡ sum_below v.cores (λ j. delta_of v j o) +ℤ value d
sum_cell v c o d lt =
    let new : ℕ → ℤ = λ j. value (put v.delta c (put (v.delta c) o d) j o) in
    let moved : sum_below v.cores new +ℤ delta_of v c o ≡ sum_below v.cores (λ j. delta_of v j o) +ℤ new c =
    sum_moves v.cores (λ j. delta_of v j o) new c lt (λ j ne. ap value (cell_row v.delta c o d j o ne)) in
    let here : new c ≡ value d = ap value (cell_same v.delta c o d) in
    moved ∙ ap (λ z. sum_below v.cores (λ j. delta_of v j o) +ℤ z) here

sum_column : (v : Counts) (c o p : ℕ) (d : Option ℤ) → p ≢ o
    → sum_below v.cores (λ j. value (put v.delta c (put (v.delta c) o d) j p)) ≡ sum_below v.cores (λ j. delta_of v j p)
sum_column v c o p d ne = sum_same v.cores (λ j. delta_of v j p) (λ j. value (put v.delta c (put (v.delta c) o d) j p))
    (λ j _. ap value (cell_column v.delta c o d j p ne))

pub count_drained : (c o : ℕ) (v : Counts) → c < v.cores → (p : ℕ) → true_count (drained c o v) p ≡ true_count v p
count_drained c o v lt p = go (same_or_not p o)
  where
    go : (p ≡ o) ⊎ (p ≢ o) → true_count (drained c o v) p ≡ true_count v p
    go (inl e) = subst (λ z. true_count (drained c o v) z ≡ true_count v z) (sym e) (
        let g : put v.global o (v.global o +ℤ delta_of v c o) o ≡ v.global o +ℤ delta_of v c o = put_same v.global o (v.global o +ℤ delta_of v c o) in
        let s = sum_cell v c o None lt in
        omega (arith, ints, g, s))
    go (inr ne) =
        let g : put v.global o (v.global o +ℤ delta_of v c o) p ≡ v.global p = put_other v.global o (v.global o +ℤ delta_of v c o) p ne in
        let s = sum_column v c o p None ne in
        omega (arith, ints, g, s)

pub count_noticed : (c o : ℕ) (m : Counts) (p : ℕ) → true_count (noticed c o m) p ≡ true_count m p
count_noticed c o m p = by_notice (λ w. true_count w p ≡ true_count m p) c o m (λ _ _. refl) (λ _ _. refl) (λ _. refl)

pub count_evicted : (c o : ℕ) (v : Counts) → c < v.cores → (p : ℕ) → true_count (evicted c o v) p ≡ true_count v p
count_evicted c o v lt p = count_noticed c o (drained c o v) p ∙ count_drained c o v lt p

pub count_added : (c o : ℕ) (by : ℤ) (v : Counts) → c < v.cores → true_count (added c o by v) o ≡ true_count v o +ℤ by
count_added c o by v lt =
    let s = sum_cell v c o (Some (delta_of v c o +ℤ by)) lt in
    omega (arith, ints, s)

pub count_added_other : (c o : ℕ) (by : ℤ) (v : Counts) (p : ℕ) → p ≢ o → true_count (added c o by v) p ≡ true_count v p
count_added_other c o by v p ne = ap (λ z. v.global p +ℤ z) (sum_column v c o p (Some (delta_of v c o +ℤ by)) ne)

pub count_begun_other : (o k : ℕ) (v : Counts) (p : ℕ) → p ≢ o → true_count (begun o k v) p ≡ true_count v p
count_begun_other o k v p ne = ap (λ z. z +ℤ sum_below v.cores (λ j. delta_of v j p)) (put_other v.global o (pos k) p ne)

-- without entries the true count is the global one
pub count_clear : (v : Counts) (o : ℕ) → ((c : ℕ) → c < v.cores → v.delta c o ≡ None) → true_count v o ≡ v.global o
count_clear v o h =
    let s : sum_below v.cores (λ j. delta_of v j o) ≡ pos 0 = sum_zero v.cores (λ j. delta_of v j o) (λ c lt. ap value (h c lt)) in
    omega (arith, ints, s)

-- some core has an entry, or none has
pub entry_or_none : (n : ℕ) (f : ℕ → Option ℤ) → ((c : ℕ) × (c < n) × (f c ≢ None)) ⊎ ((c : ℕ) → c < n → f c ≡ None)
entry_or_none zero f = inr (λ c lt. absurd (omega (arith, lt)))
entry_or_none (suc n) f = go (f n) refl (entry_or_none n f)
  where
    go : (d : Option ℤ) → f n ≡ d → ((c : ℕ) × (c < n) × (f c ≢ None)) ⊎ ((c : ℕ) → c < n → f c ≡ None)
        → ((c : ℕ) × (c < suc n) × (f c ≢ None)) ⊎ ((c : ℕ) → c < suc n → f c ≡ None)
    go (Some z) e h = inl (n, omega arith, λ no. clash (sym e ∙ no))
      where
        clash : Some z ≡ None → ⊥
        clash x = cc
    go None e (inl h) = let lt = h.1 in inl (h.0, omega (arith, lt), h.2)
    go None e (inr h) = inr (λ c lt. last c lt (same_or_not c n))
      where
        last : (c : ℕ) → c < suc n → (c ≡ n) ⊎ (c ≢ n) → f c ≡ None
        last c lt (inl e2) = ap f e2 ∙ e
        last c lt (inr ne) = h c (omega (arith, lt, ne))
