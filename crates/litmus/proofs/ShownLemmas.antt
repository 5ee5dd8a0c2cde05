-- Outcomes that aren't there
use Rattle.std.proofs.Common.{◌≡◌, ◌∙◌, ℕ, ◌+◌, ◌-◌, ◌<◌, ◌≤◌, List, [], ◌∷◌, Option, None, Some, Ok, Vec, All, inl, inr, arith, length, map}
use Rattle.std.proofs.Common.{slice_get, subst, sym, refl, zero, suc}
use Rattle.std.proofs.lemmas.List.{length-map}
use Rattle.std.proofs.lemmas.List.Sorted.{length_permutation}
use Rattle.litmus_outcomes.specs.declared.outcome.Outcomes.{Outcomes}
use Rattle.litmus_report.specs.Reports.{AreSorted, row_text, texts_of}
use Rattle.litmus_report.specs.Texts.{outcome_text}
use Rattle.litmus_text.specs.Scripts.{Read, litmus_of}
use Rattle.litmus.specs.Tells.{Fails, IsUnshown, Lacks, Lists, ended, known_of}
use Rattle.litmus.specs.declared.faults.TestFault.{TestFault}
use Rattle.litmus.specs.declared.telling.Listing.{Listing}

-- there are as many rows as outcomes
pub rows_of_all : {A : Type 0} (r : Read) (found : Outcomes A) (rows : List (Vec ℕ A × ℕ)) → AreSorted (texts_of (known_of r found)) rows
    → length rows ≡ length found.list.items
rows_of_all r found rows s = sym (length-map rows row_text) ∙ length_permutation (texts_of (known_of r found)) (map row_text rows) s.same
    ∙ length-map (map ended found.list.items) (outcome_text r.calls r.finals r.maps) ∙ length-map found.list.items ended

-- fewer than this number
pub few_rows : {A : Type 0} (r : Read) (found : Outcomes A) (rows : List (Vec ℕ A × ℕ)) (number : ℕ) → AreSorted (texts_of (known_of r found)) rows
    → length rows ≤ number - 1 → 0 < number → length found.list.items < number
few_rows r found rows number s few some = let same = rows_of_all r found rows s in omega (arith, same, few, some)

-- what isn't there is no more so where all is mapped
gone : {X Y : Type 0} (f : X → Y) (xs : List X) (k : ℕ) → slice_get xs k ≡ None → slice_get (map f xs) k ≡ None
gone f [] k e = refl
gone f (x ∷ xs) zero e = absurd cc
gone f (x ∷ xs) (suc k) e = gone f xs k e

-- nothing is there past the end
pub gone_past : {X : Type 0} (xs : List X) (k : ℕ) → length xs ≤ k → slice_get xs k ≡ None
gone_past [] k l = refl
gone_past (x ∷ xs) zero l = absurd (omega (arith, l))
gone_past (x ∷ xs) (suc k) l = gone_past xs k (omega (arith, l))

all_here : {X : Type 0} (P : X → Type 0) (xs : List X) (k : ℕ) (x : X) → slice_get xs k ≡ Some x → All P xs → P x
all_here P [] k x e h = absurd cc
all_here P (y ∷ ys) zero x e h = let same : y ≡ x = cc in subst P same (h zero y (omega arith))
all_here P (y ∷ ys) (suc k) x e h = all_here P ys k x e (λ i d l. h (suc i) d (omega (arith, l)))

-- each row has its outcome
pub no_gap : {A : Type 0} (r : Read) (found : Outcomes A) (rows : List (Vec ℕ A × ℕ)) (k : ℕ) (row : Vec ℕ A × ℕ)
    → AreSorted (texts_of (known_of r found)) rows → slice_get rows k ≡ Some row → slice_get found.list.items row.1 ≡ None → ⊥
no_gap r found rows k row s at none =
    let text = outcome_text r.calls r.finals r.maps in
    let has = all_here (λ x. slice_get (texts_of (known_of r found)) x.1 ≡ Some (row_text x)) rows k row at s.placed in
    let lacks = gone text (map ended found.list.items) row.1 (gone ended found.list.items row.1 none) in
    absurd cc

-- nothing is told of a test
pub fails_so : {A : Type 0} (view : Listing) (lines : List (List ℕ)) (r : Read) (found : Outcomes A) (fault : TestFault) → litmus_of lines ≡ Ok r
    → Lists r found → IsUnshown view r found fault → Fails A view lines fault
fails_so view lines r found fault is lists (inl late) = inl (inl late)
fails_so view lines r found fault is lists (inr missing) =
    inl (inr (record { test = r; is = is; found = found; lists = lists; missing = missing }))
