-- Texts that grow core by core, and messages that are looked through
use Rattle.std.proofs.Common.{◌≡◌, ℕ, zero, suc, ◌≢◌, ◌+◌, ◌<◌, ◌==◌, Bool, true, false, List, [], ◌∷◌, ◌++◌, length, get_or, refl, sym, ap}
use Rattle.std.proofs.Common.{◌∙◌, arith, append_assoc, add-one, None}
use Rattle.std.proofs.Math.ListN.{set}
use Rattle.std.proofs.lemmas.List.{get_or-set_other, get_or-set_same}
use Rattle.std.proofs.lemmas.Bool.Decides.{nat_tests}
use Rattle.mmu.specs.declared.entry.Translation.{Translation}
use Rattle.state_seen.specs.declared.list.OfPage.{OfPage}
use Rattle.state_seen.specs.Edits.{table_at}
use Rattle.state_seen.specs.Held.{Holds, held, nothing_held}
use Rattle.state_seen.specs.PageTexts.{texts_below}

pub cores_none : (text : ℕ → List ℕ) → texts_below text 0 ≡ []
unfolding texts_below
cores_none text = refl

cores_next : (text : ℕ → List ℕ) (n : ℕ) → texts_below text (n + 1) ≡ texts_below text n ++ text n
unfolding texts_below
cores_next text n = rw add-one refl

-- the lines of one core more are written
pub cores_more : (text : ℕ → List ℕ) (n : ℕ) (old now next : List ℕ) → now ≡ old ++ texts_below text n → next ≡ now ++ text n
    → next ≡ old ++ texts_below text (n + 1)
cores_more text n old now next e f =
    f ∙ ap (λ l. l ++ text n) e ∙ append_assoc old (texts_below text n) (text n) ∙ ap (λ l. old ++ l) (sym (cores_next text n))

-- ---- cores that hold nothing

pub held_more : (all : List Holds) → ((c : ℕ) → held all c ≡ nothing_held) → (c : ℕ) → held (all ++ nothing_held ∷ []) c ≡ nothing_held
held_more [] none zero = refl
held_more [] none (suc c) = refl
held_more (x ∷ all) none zero = none 0
held_more (x ∷ all) none (suc c) = held_more all (λ k. none (suc k)) c

-- ---- tables without entries

table_more : (all : List (List (OfPage Translation))) → ((c p : ℕ) → table_at all c p ≡ None) → (c p : ℕ) → table_at (all ++ [] ∷ []) c p ≡ None
table_more [] none zero p = refl
table_more [] none (suc c) p = refl
table_more (x ∷ all) none zero p = none 0 p
table_more (x ∷ all) none (suc c) p = table_more all (λ k. none (suc k)) c p

pub table_pushed : (xs ys : List (List (OfPage Translation))) (x : List (OfPage Translation)) → ys ≡ xs ++ x ∷ [] → x ≡ []
    → ((c p : ℕ) → table_at xs c p ≡ None)
    → (c p : ℕ) → table_at ys c p ≡ None
table_pushed xs ys x e f none c p = ap (λ l. table_at l c p) (e ∙ ap (λ y. xs ++ y ∷ []) f) ∙ table_more xs none c p

-- ---- texts, one behind another

pub three : (old a b c x y z : List ℕ) → a ≡ old ++ x → b ≡ a ++ y → c ≡ b ++ z → c ≡ old ++ ((x ++ y) ++ z)
three old a b c x y z e f g =
    g ∙ ap (λ l. l ++ z) f ∙ ap (λ l. (l ++ y) ++ z) e ∙ ap (λ l. l ++ z) (append_assoc old x y) ∙ append_assoc old (x ++ y) z

pub four : (old a b c d x y z u : List ℕ) → a ≡ old ++ x → b ≡ a ++ y → c ≡ b ++ z → d ≡ c ++ u → d ≡ old ++ (((x ++ y) ++ z) ++ u)
four old a b c d x y z u e f g h = h ∙ ap (λ l. l ++ u) (three old a b c x y z e f g) ∙ append_assoc old ((x ++ y) ++ z) u

pub held_pushed : (xs ys : List Holds) (x : Holds) → ys ≡ xs ++ x ∷ [] → x ≡ nothing_held → ((c : ℕ) → held xs c ≡ nothing_held)
    → (c : ℕ) → held ys c ≡ nothing_held
held_pushed xs ys x e f none c = ap (λ l. held l c) (e ∙ ap (λ y. xs ++ y ∷ []) f) ∙ held_more xs none c

-- ---- elements

pub same_at : {X : Type 0} (xs : List X) (n : ℕ) (d e : X) → n < length xs → get_or xs n d ≡ get_or xs n e
same_at [] n d e lt = absurd (omega (arith, lt))
same_at (x ∷ xs) zero d e lt = refl
same_at (x ∷ xs) (suc n) d e lt = same_at xs n d e (omega (arith, lt))

pub element : {X : Type 0} (xs : List X) (n i : ℕ) (x d : X) → i ≡ n → x ≡ get_or xs i x → n < length xs → x ≡ get_or xs n d
element xs n i x d e is lt = is ∙ ap (λ k. get_or xs k x) e ∙ same_at xs n x d lt

pub one_put : {X : Type 0} (xs : List X) (P : ℕ → X) (d : X) (i n : ℕ) (v : X) → i ≡ n → v ≡ P n → n < length xs
    → ((k : ℕ) → k < n → get_or xs k d ≡ P k) → (k : ℕ) → k < n + 1 → get_or (set xs i v) k d ≡ P k
one_put xs P d i n v e is lt before k less = go (k == n) refl
  where
    at : get_or (set xs i v) k d ≡ get_or (set xs n v) k d
    at = ap (λ j. get_or (set xs j v) k d) e

    go : (b : Bool) → (k == n) ≡ b → get_or (set xs i v) k d ≡ P k
    go true t = let same : k ≡ n = grind (arith, nat_tests, t) in
        at ∙ ap (λ j. get_or (set xs n v) j d) same ∙ get_or-set_same xs n v d lt ∙ is ∙ ap P (sym same)
    go false t = let other : k ≢ n = grind (arith, nat_tests, t) in at ∙ get_or-set_other xs n k v d other ∙ before k (omega (arith, less, other))
