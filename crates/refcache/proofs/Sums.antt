-- Two numbers are the same or not, tables with one cell changed, and sums in which one term changes.
use Rattle.std.proofs.Common.{◌≡◌, ◌≢◌, ℕ, zero, suc, ◌<◌, Bool, true, false, ◌==◌, refl, ap, arith, ℤ, pos, ◌+ℤ◌, ◌∙◌}
use Rattle.std.proofs.Common.{◌⊎◌, inl, inr}
use Rattle.std.proofs.lemmas.Int.{ints}
use Rattle.vm_base.specs.Functions.{put}
use Rattle.vm_base.proofs.Functions.{eq_true, eq_false, put_all, put_same, put_other}
use Rattle.refcache.specs.Sums.{sum_below}

pub same_or_not : (j k : ℕ) → (j ≡ k) ⊎ (j ≢ k)
same_or_not j k = go (j == k) refl
  where
    go : (b : Bool) → (j == k) ≡ b → (j ≡ k) ⊎ (j ≢ k)
    go true e = inl (eq_true j k e)
    go false e = inr (eq_false j k e)

-- one cell of a table changes
pub cell_same : {V : Type 0} (f : ℕ → ℕ → V) (c o : ℕ) (x : V) → put f c (put (f c) o x) c o ≡ x
cell_same f c o x = ap (λ g. g o) (put_same f c (put (f c) o x)) ∙ put_same (f c) o x

pub cell_row : {V : Type 0} (f : ℕ → ℕ → V) (c o : ℕ) (x : V) (j p : ℕ) → j ≢ c → put f c (put (f c) o x) j p ≡ f j p
cell_row f c o x j p ne = ap (λ g. g p) (put_other f c (put (f c) o x) j ne)

pub cell_column : {V : Type 0} (f : ℕ → ℕ → V) (c o : ℕ) (x : V) (j p : ℕ) → p ≢ o → put f c (put (f c) o x) j p ≡ f j p
cell_column f c o x j p ne = put_all (λ j g. g p ≡ f j p) f c (put (f c) o x) (put_other (f c) o x p ne) (λ j' _. refl) j

pub sum_same : (n : ℕ) (f g : ℕ → ℤ) → ((c : ℕ) → c < n → g c ≡ f c) → sum_below n g ≡ sum_below n f
unfolding sum_below
sum_same zero f g h = refl
sum_same (suc n) f g h =
    let a : g n ≡ f n = h n (omega arith) in
    let b : sum_below n g ≡ sum_below n f = sum_same n f g (λ c lt. h c (omega (arith, lt))) in
    omega (arith, ints, a, b)

pub sum_zero : (n : ℕ) (f : ℕ → ℤ) → ((c : ℕ) → c < n → f c ≡ pos 0) → sum_below n f ≡ pos 0
unfolding sum_below
sum_zero zero f h = refl
sum_zero (suc n) f h =
    let a : f n ≡ pos 0 = h n (omega arith) in
    let b : sum_below n f ≡ pos 0 = sum_zero n f (λ c lt. h c (omega (arith, lt))) in
    omega (arith, ints, a, b)

-- one term changes: the sum gains the new and loses the old
pub sum_moves : (n : ℕ) (f g : ℕ → ℤ) (c : ℕ) → c < n → ((j : ℕ) → j ≢ c → g j ≡ f j) → sum_below n g +ℤ f c ≡ sum_below n f +ℤ g c
unfolding sum_below
sum_moves zero f g c lt h = absurd (omega (arith, lt))
sum_moves (suc n) f g c lt h = go (λ l. sum_moves n f g c l h) (same_or_not n c)
  where
    go : (c < n → sum_below n g +ℤ f c ≡ sum_below n f +ℤ g c) → (n ≡ c) ⊎ (n ≢ c) → sum_below (suc n) g +ℤ f c ≡ sum_below (suc n) f +ℤ g c
    go ih (inl e) =
        let a : f n ≡ f c = ap f e in
        let b : g n ≡ g c = ap g e in
        let same : sum_below n g ≡ sum_below n f = sum_same n f g (λ j l. h j (omega (arith, l, e))) in
        omega (arith, ints, a, b, same)
    go ih (inr ne) =
        let a : g n ≡ f n = h n ne in
        let b : sum_below n g +ℤ f c ≡ sum_below n f +ℤ g c = ih (omega (arith, lt, ne)) in
        omega (arith, ints, a, b)
