-- Lists of views, and what is so of each
use Rattle.std.proofs.Common.{◌≡◌, ◌≢◌, ℕ, zero, suc, ◌<◌, List, [], ◌∷◌, ◌++◌, length, set, refl, sym, ap, ◌∙◌, subst, ◌⊎◌, inl, inr, ⊎_elim, arith}
use Rattle.std.specs.Prelude.{slice_get, Some}
use mathlib.Core.Bool.{Bool, true, false}
use mathlib.Core.Option.{some, some-ne-none, some-injective}
use lib.ListN.{get_elem?}
use Rattle.atomic_table.proofs.Lists.{at_set}

module _ {A : Type 0} where
  pub each_at : (P : ℕ → A → Type 0) (l : List A) (i : ℕ) (w : A) → ((k : ℕ) (v : A) → k ≢ i → get_elem? l k ≡ some v → P k v) → P i w
      → (k : ℕ) (v : A) → get_elem? (set l i w) k ≡ some v → P k v
  each_at P l i w others mine k v e = ⊎_elim (λ (t : (k ≡ i) × (w ≡ v)). subst (λ (x : ℕ × A). P x.0 x.1) (λ j. (sym t.0 j, t.1 j)) mine)
      (λ (t : (k ≢ i) × (get_elem? l k ≡ some v)). others k v t.0 t.1) (at_set l i k w v e)

  pub at_end : (l : List A) (a b : A) (j : ℕ) → get_elem? (l ++ a ∷ []) j ≡ some b → (get_elem? l j ≡ some b) ⊎ ((j ≡ length l) × (a ≡ b))
  at_end [] a b zero e = inr (refl, some-injective a b e)
  at_end [] a b (suc j) e = absurd (some-ne-none b (sym e))
  at_end (x ∷ xs) a b zero e = inl e
  at_end (x ∷ xs) a b (suc j) e = ⊎_elim (λ t. inl t) (λ t. inr (ap suc t.0, t.1)) (at_end xs a b j e)

  pub each_end : (P : ℕ → A → Type 0) (l : List A) (a : A) → ((k : ℕ) (v : A) → get_elem? l k ≡ some v → P k v) → P (length l) a
      → (k : ℕ) (v : A) → get_elem? (l ++ a ∷ []) k ≡ some v → P k v
  each_end P l a old new k v e = ⊎_elim (λ t. old k v t) (λ (t : (k ≡ length l) × (a ≡ v)). subst (λ (x : ℕ × A). P x.0 x.1) (λ j. (sym t.0 j, t.1 j)) new)
      (at_end l a v k e)

  -- what is so of an entry stays so, where another or it is set to what it is so of too
  pub still_at : (P : A → Type 0) (l : List A) (i j : ℕ) (v w a : A) → get_elem? l i ≡ some v → get_elem? l j ≡ some w → P w → (j ≡ i → P a)
      → (u : A) × (get_elem? (set l i a) j ≡ some u) × P u
  still_at P [] i j v w a here there p own = absurd (some-ne-none v (sym here))
  still_at P (x ∷ xs) zero zero v w a here there p own = (a, refl, own refl)
  still_at P (x ∷ xs) zero (suc j) v w a here there p own = (w, there, p)
  still_at P (x ∷ xs) (suc i) zero v w a here there p own = (w, there, p)
  still_at P (x ∷ xs) (suc i) (suc j) v w a here there p own = still_at P xs i j v w a here there p (λ e. own (ap suc e))

  pub set_there : (l : List A) (i : ℕ) (v a : A) → get_elem? l i ≡ some v → get_elem? (set l i a) i ≡ some a
  set_there [] i v a e = absurd (some-ne-none v (sym e))
  set_there (x ∷ xs) zero v a e = refl
  set_there (x ∷ xs) (suc i) v a e = set_there xs i v a e

  pub one_entry : (l : List A) (i j : ℕ) (v w : A) → get_elem? l i ≡ some v → get_elem? l j ≡ some w → i ≡ j → v ≡ w
  one_entry l i j v w here there same = some-injective v w (sym here ∙ (ap (get_elem? l) same ∙ there))

  -- of both parts
  pub each_both : (P : A → Type 0) (xs ys : List A) → ((k : ℕ) (v : A) → get_elem? xs k ≡ some v → P v) → ((k : ℕ) (v : A) → get_elem? ys k ≡ some v → P v)
      → (k : ℕ) (v : A) → get_elem? (xs ++ ys) k ≡ some v → P v
  each_both P [] ys old new k v e = new k v e
  each_both P (x ∷ xs) ys old new zero v e = old zero v e
  each_both P (x ∷ xs) ys old new (suc k) v e = each_both P xs ys (λ j u i. old (suc j) u i) new k v e

  -- of the first, and of the others
  pub each_front : (P : A → Type 0) (x : A) (xs : List A) → P x → ((k : ℕ) (v : A) → get_elem? xs k ≡ some v → P v)
      → (k : ℕ) (v : A) → get_elem? (x ∷ xs) k ≡ some v → P v
  each_front P x xs p old zero v e = subst P (some-injective x v e) p
  each_front P x xs p old (suc k) v e = old k v e

  pub as_elem : (ts : List A) (n : ℕ) (t : A) → slice_get ts n ≡ Some t → get_elem? ts n ≡ some t
  as_elem [] n t e = absurd cc
  as_elem (x ∷ xs) zero t e = ap some cc
  as_elem (x ∷ xs) (suc n) t e = as_elem xs n t e

pub above_spare : (spare left core : ℕ) → (0 < spare → spare ≡ left) → (core ≡ 0) ⊎ (left < core) → (core ≡ 0) ⊎ (spare < core)
above_spare zero left zero e lies = inl refl
above_spare zero left (suc c) e lies = inr (omega arith)
above_spare (suc n) left core e lies = let same = e (omega arith) in ⊎_elim (λ z. inl z) (λ (m : left < core). inr (omega (arith, m, same))) lies

pub not_true : (b : Bool) → (b ≡ true → ⊥) → b ≡ false
not_true true n = absurd (n refl)
not_true false n = refl

pub not_both : (b : Bool) → b ≡ false → b ≡ true → ⊥
not_both b f t = cc (f, t)
