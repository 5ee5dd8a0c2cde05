-- Where no frame in use comes any more
use Rattle.std.proofs.Common.{◌≡◌, ℕ, zero, suc, ◌+◌, ◌<◌, ◌≤◌, Bool, true, false, ◌⊎◌, inl, inr, arith, refl, sym, ap, ◌∙◌, List, [], ◌++◌}
use Rattle.std.proofs.Common.{add-one, append-nil}
use Rattle.std.proofs.lemmas.Bool.{cases_lt}
use Rattle.frames.specs.Bits.{count_below}
use Rattle.frames.proofs.Counting.{as_number}
use Rattle.state_seen.specs.PageTexts.{texts_below}

-- one more number
count_next : (s : ℕ → Bool) (n : ℕ) → count_below s (suc n) ≡ as_number (s n) + count_below s n
unfolding count_below
count_next s n = refl

-- none is below 0
pub count_start : (s : ℕ → Bool) → count_below s 0 ≡ 0
unfolding count_below
count_start s = refl

pub count_after : (s : ℕ → Bool) (n : ℕ) → count_below s (n + 1) ≡ as_number (s n) + count_below s n
unfolding count_below
count_after s n = rw add-one refl

one_most : (b : Bool) → as_number b ≤ 1
one_most true = omega arith
one_most false = omega arith

-- more numbers have no fewer members
pub count_grows : (s : ℕ → Bool) (a m : ℕ) → a ≤ m → count_below s a ≤ count_below s m
count_grows s a zero le = let same : count_below s a ≡ count_below s 0 = ap (count_below s) (omega (arith, le)) in omega (arith, same)
count_grows s a (suc m) le = go (count_grows s a m) (cases_lt m a)
  where
    go : (a ≤ m → count_below s a ≤ count_below s m) → (m < a) ⊎ (a ≤ m) → count_below s a ≤ count_below s (suc m)
    go rest (inl more) =
        let same : count_below s a ≡ count_below s (suc m) = ap (count_below s) (omega (arith, le, more)) in omega (arith, same)
    go rest (inr less) =
        let next : count_below s (suc m) ≡ as_number (s m) + count_below s m = count_next s m in
        let before : count_below s a ≤ count_below s m = rest less in
        omega (arith, next, before)

-- and at most as many more as they are
count_most : (s : ℕ → Bool) (a m : ℕ) → a ≤ m → count_below s m + a ≤ count_below s a + m
count_most s a zero le = let same : count_below s a ≡ count_below s 0 = ap (count_below s) (omega (arith, le)) in omega (arith, same, le)
count_most s a (suc m) le = go (count_most s a m) (cases_lt m a)
  where
    go : (a ≤ m → count_below s m + a ≤ count_below s a + m) → (m < a) ⊎ (a ≤ m) → count_below s (suc m) + a ≤ count_below s a + suc m
    go rest (inl more) =
        let at : a ≡ suc m = omega (arith, le, more) in
        let same : count_below s a ≡ count_below s (suc m) = ap (count_below s) at in
        omega (arith, same, at)
    go rest (inr less) =
        let next : count_below s (suc m) ≡ as_number (s m) + count_below s m = count_next s m in
        let before : count_below s m + a ≤ count_below s a + m = rest less in
        let one : as_number (s m) ≤ 1 = one_most (s m) in
        omega (arith, next, before, one)

-- where as many are members as there are numbers, each is one
pub all_members : (s : ℕ → Bool) (a m : ℕ) → a ≤ m → count_below s a + m ≤ count_below s m + a → (f : ℕ) → a ≤ f → f < m → s f ≡ true
all_members s a zero le full f from below = absurd (omega (arith, below))
all_members s a (suc m) le full f from below =
    go (λ up all less. all_members s a m up all f from less) (s m) refl (cases_lt f m)
  where
    next : count_below s (suc m) ≡ as_number (s m) + count_below s m
    next = count_next s m

    most : count_below s m + a ≤ count_below s a + m
    most = count_most s a m (omega (arith, from, below))

    go : (a ≤ m → count_below s a + m ≤ count_below s m + a → f < m → s f ≡ true) → (b : Bool) → s m ≡ b → (f < m) ⊎ (m ≤ f) → s f ≡ true
    go rest true is (inl less) =
        let one : as_number (s m) ≤ 1 = one_most (s m) in
        rest (omega (arith, from, less)) (omega (arith, full, next, one)) less
    go rest true is (inr more) = let last : f ≡ m = omega (arith, below, more) in ap s last ∙ is
    go rest false is either =
        let none : as_number (s m) ≡ 0 = ap as_number is in
        absurd (omega (arith, full, next, none, most))

-- texts of which nothing is left from a number on
pub texts_end : (text : ℕ → List ℕ) (a m : ℕ) → a ≤ m → ((k : ℕ) → a ≤ k → k < m → text k ≡ []) → texts_below text m ≡ texts_below text a
unfolding texts_below
texts_end text a zero le none = let same : 0 ≡ a = omega (arith, le) in ap (texts_below text) same
texts_end text a (suc m) le none = go (λ less. texts_end text a m less (λ k from below. none k from (omega (arith, below)))) (cases_lt m a)
  where
    go : (a ≤ m → texts_below text m ≡ texts_below text a) → (m < a) ⊎ (a ≤ m) → texts_below text m ++ text m ≡ texts_below text a
    go rest (inl more) = let same : suc m ≡ a = omega (arith, le, more) in ap (texts_below text) same
    go rest (inr less) = ap (λ l. texts_below text m ++ l) (none m less (omega arith)) ∙ append-nil (texts_below text m) ∙ rest less
