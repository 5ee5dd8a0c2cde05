-- The least object of a core's places.
use Rattle.std.proofs.Common.{◌≡◌, ◌≢◌, ℕ, ◌<◌, ◌≤◌, ◌+◌, ◌%◌, ◌==◌, false, cond, refl, sym, ap, arith, ◌∙◌, List, Option, Some}
use Rattle.std.proofs.Common.{None, slice_index_or, nat_lt, ◌⊎◌, inl, inr, Bool, true, is_some}
use Rattle.std.proofs.lemmas.Bool.{cases_lt}
use Rattle.std.proofs.lemmas.Bool.Decides.{nat_tests}
use Rattle.refcache.specs.declared.places.Delta.{Delta}
use Rattle.refcache.specs.Places.{entries, if_its, in_use}
use Rattle.refcache.specs.Pieces.{lesser_object}
use Rattle.vm_base.specs.Functions.{put}
use Rattle.vm_base.proofs.Functions.{by_test, put_other, eq_false}
use Rattle.refcache.proofs.Sums.{same_or_not}

abbrev at : List (Option Delta) → ℕ → Option Delta
at places j = slice_index_or places j None

-- the object is the least of those whose places aren't left to be looked at
abbrev pub IsLeastBeside : List (Option Delta) → (ℕ → Bool) → Option ℕ → Type 0
IsLeastBeside places left None = (j : ℕ) → left j ≡ false → slice_index_or places j None ≡ None
IsLeastBeside places left (Some o) =
    ((j : ℕ) × (e : Delta) × (j < 64) × (slice_index_or places j None ≡ Some e) × (e.object ≡ o))
    × ((j : ℕ) (e : Delta) → left j ≡ false → slice_index_or places j None ≡ Some e → o ≤ e.object)

some_none : {A : Type 0} {x : A} → Some x ≡ None → ⊥
some_none h = cc

same_entry : {x y : Delta} → Some x ≡ Some y → x.object ≡ y.object
same_entry h = cc

no_entry : (x : Option Delta) → is_some x ≡ false → x ≡ None
no_entry None h = refl
no_entry (Some x) h = cc

-- places that aren't in use have none
pub least_first : (places : List (Option Delta)) (used : ℕ → Bool) → used ≡ in_use places → IsLeastBeside places used None
least_first places used same = λ j h. no_entry (at places j) (ap (λ f. f j) (sym same) ∙ h)

pub least_more : (places : List (Option Delta)) (left : ℕ → Bool) (i : ℕ) (least : Option ℕ) → i < 64 → IsLeastBeside places left least
    → IsLeastBeside places (put left i false) (lesser_object least (slice_index_or places i None))
least_more places left i least inside h = go (at places i) refl least h
  where
    Looked : ℕ → Type 0
    Looked j = (j ≡ i) ⊎ (left j ≡ false)

    looked : (j : ℕ) → put left i false j ≡ false → Looked j
    looked j gone = by_case (same_or_not j i)
      where
        by_case : (j ≡ i) ⊎ (j ≢ i) → Looked j
        by_case (inl e) = inl e
        by_case (inr ne) = inr (sym (put_other left i false j ne) ∙ gone)

    go : (x : Option Delta) → slice_index_or places i None ≡ x → (least : Option ℕ) → IsLeastBeside places left least
        → IsLeastBeside places (put left i false) (lesser_object least x)
    go None e None h = λ j gone. pick j (looked j gone)
      where
        pick : (j : ℕ) → Looked j → slice_index_or places j None ≡ None
        pick j (inl s) = ap (λ z. slice_index_or places z None) s ∙ e
        pick j (inr l) = h j l
    go None e (Some o) h = (h.0, λ j y gone p. pick j y p (looked j gone))
      where
        pick : (j : ℕ) (y : Delta) → slice_index_or places j None ≡ Some y → Looked j → o ≤ y.object
        pick j y p (inl s) = absurd (some_none (sym p ∙ ap (λ z. slice_index_or places z None) s ∙ e))
        pick j y p (inr l) = h.1 j y l p
    go (Some x) e None h = ((i, x, inside, e, refl), λ j y gone p. pick j y p (looked j gone))
      where
        pick : (j : ℕ) (y : Delta) → slice_index_or places j None ≡ Some y → Looked j → x.object ≤ y.object
        pick j y p (inl s) = let same : x.object ≡ y.object = same_entry (sym e ∙ sym (ap (λ z. slice_index_or places z None) s) ∙ p) in omega (arith, same)
        pick j y p (inr l) = absurd (some_none (sym p ∙ h j l))
    go (Some x) e (Some o) h =
        by_test (IsLeastBeside places (put left i false)) (nat_lt x.object o) (Some x.object) (Some o)
        (λ t. let less : x.object < o = grind (arith, nat_tests) in
        ((i, x, inside, e, refl), λ j y gone p. new less j y p (looked j gone)))
        (λ t. let more : o ≤ x.object = grind (arith, nat_tests) in
        (h.0, λ j y gone p. old more j y p (looked j gone)))
      where
        here : (j : ℕ) (y : Delta) → slice_index_or places j None ≡ Some y → j ≡ i → x.object ≡ y.object
        here j y p s = same_entry (sym e ∙ sym (ap (λ z. slice_index_or places z None) s) ∙ p)

        new : x.object < o → (j : ℕ) (y : Delta) → slice_index_or places j None ≡ Some y → Looked j → x.object ≤ y.object
        new less j y p (inl s) = let same = here j y p s in omega (arith, same)
        new less j y p (inr l) = let b = h.1 j y l p in omega (arith, b, less)

        old : o ≤ x.object → (j : ℕ) (y : Delta) → slice_index_or places j None ≡ Some y → Looked j → o ≤ y.object
        old more j y p (inl s) = let same = here j y p s in omega (arith, same, more)
        old more j y p (inr l) = h.1 j y l p

-- the least place that is left lies past all that were looked at
pub looked_past : (left : ℕ → Bool) (turn i : ℕ) → ((k : ℕ) → k < turn → left k ≡ false) → left i ≡ true
    → ((k : ℕ) → k < i → left k ≡ false) → (k : ℕ) → k < turn + 1 → put left i false k ≡ false
looked_past left turn i passed here least = λ k lt. by_test (λ b. b ≡ false) (k == i) false (left k) (λ e. refl)
    (λ e. at_other k lt (eq_false k i e) (cases_lt k i))
  where
    at_other : (k : ℕ) → k < turn + 1 → k ≢ i → (k < i) ⊎ (i ≤ k) → left k ≡ false
    at_other k lt ne (inl s) = least k s
    at_other k lt ne (inr s) = absurd (clash (passed i (omega arith)))
      where
        clash : left i ≡ false → ⊥
        clash f = cc

-- what stands nowhere has no delta
absent : (places : List (Option Delta)) (p : ℕ) → ((e : Delta) → slice_index_or places (p % 64) None ≡ Some e → e.object ≢ p) → entries places p ≡ None
absent places p h = go (at places (p % 64)) refl
  where
    go : (x : Option Delta) → slice_index_or places (p % 64) None ≡ x → entries places p ≡ None
    go None e = ap (λ x. if_its x p) e
    go (Some x) e =
        let ne : x.object ≢ p = h x e in
        let t : (x.object == p) ≡ false = grind (arith, nat_tests) in
        ap (λ x. if_its x p) e ∙ ap (λ b. cond b (Some x.delta) None) t
