-- What holds of each element, by its place
use Rattle.std.proofs.Common.{ℕ, zero, suc, ◌<◌, List, [], ◌∷◌, ◌++◌, length, get_or, arith, subst, length-append}
use Rattle.std.proofs.Math.Seq.{get_or-append_seam}
use Rattle.std.proofs.lemmas.List.{get_or_append_left}

module _ {X : Type 0} where
  -- of the element at each place
  abbrev pub Each : (ℕ → X → Type 0) → List X → Type 0
  Each P xs = (at : ℕ) (d : X) → at < length xs → P at (get_or xs at d)

  -- and of one more
  pub each_snoc : (P : ℕ → X → Type 0) (xs : List X) (x : X) → Each P xs → P (length xs) x → Each P (xs ++ x ∷ [])
  each_snoc P [] x f p zero d lt = p
  each_snoc P [] x f p (suc at) d lt = absurd (omega (arith, lt))
  each_snoc P (y ∷ ys) x f p zero d lt = f zero d (omega arith)
  each_snoc P (y ∷ ys) x f p (suc at) d lt =
      each_snoc (λ k z. P (suc k) z) ys x (λ k e l. f (suc k) e (omega (arith, l))) p at d (omega (arith, lt))

  -- of a front
  pub each_front : (P : ℕ → X → Type 0) (ys zs : List X) → Each P (ys ++ zs) → Each P ys
  each_front P ys zs f at d lt =
      subst (λ z. P at z) (get_or_append_left ys zs d at lt) (f at d (omega (arith, lt, length-append ys zs)))

  -- of the last
  pub each_last : (P : ℕ → X → Type 0) (ys : List X) (x : X) → Each P (ys ++ x ∷ []) → P (length ys) x
  each_last P ys x f = subst (λ z. P (length ys) z) (get_or-append_seam ys x [] x) (f (length ys) x (omega (arith, length-append ys (x ∷ []))))
