-- Which calls of a core have taken effect in an order
use Rattle.std.proofs.Common.{◌≡◌, ◌∙◌, ℕ, zero, suc, ◌<◌, ◌≤◌, inl, inr, ◌==◌, ◌||◌, Bool, true, false, List, [], ◌∷◌, ◌++◌}
use Rattle.std.proofs.Common.{Some, ap, arith, refl, slice_get, subst, sym}
use Rattle.std.proofs.lemmas.Bool.Decides.{nat_tests}
use Rattle.vm_base.proofs.Functions.{eq_true}
use Rattle.orders.specs.declared.history.Item.{Item}
use Rattle.orders.specs.declared.history.Item.TheVariants.{Reply, Copy}
use Rattle.cores.specs.declared.kept.Kept.{Kept}
use Rattle.cores.specs.Cores.{IsChoice, Rises}

-- ---- replies among items

abbrev pub stands : List Item → ℕ → Bool
stands [] n = false
stands (Reply i ∷ xs) n = (i == n) || stands xs n
stands (Copy i ∷ xs) n = stands xs n

pub stands_at : (xs : List Item) (n : ℕ) → stands xs n ≡ true → (k : ℕ) × (slice_get xs k ≡ Some (Reply n))
stands_at [] n e = absurd cc
stands_at (Copy i ∷ xs) n e = let r = stands_at xs n e in (suc r.0, r.1)
stands_at (Reply i ∷ xs) n e = go (stands_at xs n) (i == n) refl e
  where
    go : (stands xs n ≡ true → (k : ℕ) × (slice_get xs k ≡ Some (Reply n))) → (b : Bool) → (i == n) ≡ b → (b || stands xs n) ≡ true
        → (k : ℕ) × (slice_get (Reply i ∷ xs) k ≡ Some (Reply n))
    go more true f h = (0, ap (λ (x : ℕ). Some (Reply x)) (eq_true i n f))
    go more false f h = let r = more h in (suc r.0, r.1)

same_self : (n : ℕ) → (n == n) ≡ true
same_self n = grind (arith, nat_tests)

or_true : (a : Bool) → (a || true) ≡ true
or_true true = refl
or_true false = refl

pub at_stands : (xs : List Item) (n k : ℕ) → slice_get xs k ≡ Some (Reply n) → stands xs n ≡ true
at_stands [] n k e = absurd cc
at_stands (Reply i ∷ xs) n zero e =
    let both : Some (Reply i) ≡ Some (Reply n) = e in
    let same : i ≡ n = cc in
    ap (λ (b : Bool). b || stands xs n) (ap (λ (x : ℕ). x == n) same ∙ same_self n)
at_stands (Copy i ∷ xs) n zero e = absurd cc
at_stands (Reply i ∷ xs) n (suc k) e = ap (λ (b : Bool). (i == n) || b) (at_stands xs n k e) ∙ or_true (i == n)
at_stands (Copy i ∷ xs) n (suc k) e = at_stands xs n k e

-- ---- those of some numbers

abbrev pub put_if : Bool → Kept → List Kept → List Kept
put_if true k ks = k ∷ ks
put_if false k ks = ks

abbrev pub choose : (ℕ → Bool) → List Kept → List Kept
choose by [] = []
choose by (k ∷ ks) = put_if (by k.number) k (choose by ks)

pub choose_in : (by : ℕ → Bool) (ks : List Kept) (n : ℕ) (k : Kept) → slice_get ks n ≡ Some k → by k.number ≡ true
    → (m : ℕ) × (slice_get (choose by ks) m ≡ Some k)
choose_in by [] n k e s = absurd cc
choose_in by (d ∷ ds) zero k e s = go (by d.number) (ap (λ (x : Kept). by x.number) same ∙ s)
  where
    same : d ≡ k
    same = let both : Some d ≡ Some k = e in cc

    go : (b : Bool) → b ≡ true → (m : ℕ) × (slice_get (put_if b d (choose by ds)) m ≡ Some k)
    go true f = (0, ap Some same)
    go false f = absurd cc
choose_in by (d ∷ ds) (suc n) k e s = go (by d.number) (choose_in by ds n k e s)
  where
    go : (b : Bool) → (m : ℕ) × (slice_get (choose by ds) m ≡ Some k) → (m : ℕ) × (slice_get (put_if b d (choose by ds)) m ≡ Some k)
    go true r = (suc r.0, r.1)
    go false r = r

pub record WasThere (by : ℕ → Bool) (ks : List Kept) (k : Kept) : Type 0 where
  pub at : ℕ
  pub is : slice_get ks at ≡ Some k
  pub stood : by k.number ≡ true

there_later : (by : ℕ → Bool) (d k : Kept) (ks : List Kept) → WasThere by ks k → WasThere by (d ∷ ks) k
there_later by d k ks w = record { at = suc w.at; is = w.is; stood = w.stood }

pub choose_of : (by : ℕ → Bool) (ks : List Kept) (m : ℕ) (k : Kept) → slice_get (choose by ks) m ≡ Some k → WasThere by ks k
choose_of by [] m k e = absurd cc
choose_of by (d ∷ ds) m k e = go (λ n h. choose_of by ds n k h) (by d.number) refl m e
  where
    go : ((n : ℕ) → slice_get (choose by ds) n ≡ Some k → WasThere by ds k) → (b : Bool) → by d.number ≡ b → (n : ℕ)
        → slice_get (put_if b d (choose by ds)) n ≡ Some k → WasThere by (d ∷ ds) k
    go more false f n h = there_later by d k ds (more n h)
    go more true f zero h =
        let both : Some d ≡ Some k = h in
        let same : d ≡ k = cc in record { at = 0; is = h; stood = subst (λ (x : Kept). by x.number ≡ true) same f }
    go more true f (suc n) h = there_later by d k ds (more n h)

-- where all but open ones stand, they are a choice
pub is_choice : (by : ℕ → Bool) (ks : List Kept) → ((n : ℕ) (k : Kept) → slice_get ks n ≡ Some k → k.is_open ≡ false → by k.number ≡ true)
    → IsChoice ks (choose by ks)
is_choice by [] sure = refl
is_choice by (d ∷ ds) sure = go (is_choice by ds (λ n k e o. sure (suc n) k e o)) (by d.number) refl
  where
    open_else : (b : Bool) → d.is_open ≡ b → by d.number ≡ false → d.is_open ≡ true
    open_else true e f = e
    open_else false e f = let wrong : true ≡ false = sym (sure 0 d refl e) ∙ f in absurd cc

    go : IsChoice ds (choose by ds) → (b : Bool) → by d.number ≡ b → IsChoice (d ∷ ds) (put_if b d (choose by ds))
    go rest true e = inl (choose by ds, refl, rest)
    go rest false e = inr (open_else d.is_open refl e, rest)

-- ---- each once

pub rises_from : (low high : ℕ) (ks : List Kept) → low ≤ high → Rises high ks → Rises low ks
rises_from low high [] l r = tt
rises_from low high (k ∷ ks) l r = let more = r.0 in (omega (arith, l, more), r.1)

pub choose_rises : (low : ℕ) (by : ℕ → Bool) (ks : List Kept) → Rises low ks → Rises low (choose by ks)
choose_rises low by [] r = tt
choose_rises low by (k ∷ ks) r = go (choose_rises (suc k.number) by ks r.1) (by k.number)
  where
    go : Rises (suc k.number) (choose by ks) → (b : Bool) → Rises low (put_if b k (choose by ks))
    go rest true = (r.0, rest)
    go rest false = let more = r.0 in rises_from low (suc k.number) (choose by ks) (omega (arith, more)) rest

risen : (low : ℕ) (ks : List Kept) (n : ℕ) (k : Kept) → Rises low ks → slice_get ks n ≡ Some k → low ≤ k.number
risen low [] n k r e = absurd cc
risen low (d ∷ ds) zero k r e =
    let both : Some d ≡ Some k = e in
    let same : d ≡ k = cc in
    subst (λ (x : Kept). low ≤ x.number) same r.0
risen low (d ∷ ds) (suc n) k r e =
    let more = risen (suc d.number) ds n k r.1 e in
    let less = r.0 in omega (arith, more, less)

first_number : (low : ℕ) (d k : Kept) (ds : List Kept) (n : ℕ) → Rises low (d ∷ ds) → slice_get ds n ≡ Some k → d.number < k.number
first_number low d k ds n r e = let more = risen (suc d.number) ds n k r.1 e in omega (arith, more)

pub rises_distinct : (low : ℕ) (ks : List Kept) (j n : ℕ) (a b : Kept) → Rises low ks → slice_get ks j ≡ Some a → slice_get ks n ≡ Some b
    → a.number ≡ b.number → j ≡ n
rises_distinct low [] j n a b r e f same = absurd cc
rises_distinct low (d ∷ ds) zero zero a b r e f same = refl
rises_distinct low (d ∷ ds) zero (suc n) a b r e f same =
    let both : Some d ≡ Some a = e in
    let that : d ≡ a = cc in
    let number : d.number ≡ a.number = ap (λ (k : Kept). k.number) that in
    let less = first_number low d b ds n r f in absurd (omega (arith, less, same, number))
rises_distinct low (d ∷ ds) (suc j) zero a b r e f same =
    let both : Some d ≡ Some b = f in
    let that : d ≡ b = cc in
    let number : d.number ≡ b.number = ap (λ (k : Kept). k.number) that in
    let less = first_number low d a ds j r e in absurd (omega (arith, less, same, number))
rises_distinct low (d ∷ ds) (suc j) (suc n) a b r e f same = ap suc (rises_distinct (suc d.number) ds j n a b r.1 e f same)

-- one more at the end
pub rises_push : (low at : ℕ) (ks : List Kept) (k : Kept) → low ≤ at → k.number ≡ at → ((n : ℕ) (d : Kept) → slice_get ks n ≡ Some d → d.number < at)
    → Rises low ks → Rises low (ks ++ k ∷ [])
rises_push low at [] k l is below r = (omega (arith, l, is), tt)
rises_push low at (d ∷ ds) k l is below r =
    let less = below 0 d refl in
    (r.0, rises_push (suc d.number) at ds k (omega (arith, less)) is (λ n e f. below (suc n) e f) r.1)
