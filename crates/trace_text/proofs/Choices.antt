-- What a choice, or one step after another, came to.
use Rattle.std.proofs.Common.{◌≡◌, ◌⊎◌, inl, inr, Bool, true, false, cond, List, [], ◌∷◌, Option, Some, None, refl, sym, ap, subst}
use Rattle.std.specs.Str.{bytes_eq}
use Rattle.std.proofs.lemmas.Slice.Eq.{bytes_eq-Decides}
use Rattle.trace_text.specs.Words.{Word, front_word}
use Rattle.trace_text.specs.Request.{◌>>=◌, ended}

pub bind_some : {A B : Type 0} (o : Option A) (f : A → Option B) (y : B) → (o >>= f) ≡ Some y → (x : A) × (o ≡ Some x) × (f x ≡ Some y)
bind_some None f y e = absurd (cc)
bind_some (Some x) f y e = (x, refl, e)

pub ended_some : {A : Type 0} (ws : List Word) (x y : A) → ended ws x ≡ Some y → (ws ≡ []) × (x ≡ y)
ended_some [] x y e = (refl, cc)
ended_some (w ∷ ws) x y e = absurd (cc)

pub front_some : (ws : List Word) (f : Word × List Word) → front_word ws ≡ Some f → ws ≡ f.0 ∷ f.1
front_some [] f e = absurd (cc)
front_some (w ∷ ws) f e = let same : (w, ws) ≡ f = cc in ap (λ g. g.0 ∷ g.1) same

pub chosen : {A : Type 0} (b : Bool) (x y z : A) → cond b x y ≡ z → ((b ≡ true) × (x ≡ z)) ⊎ ((b ≡ false) × (y ≡ z))
chosen true x y z e = inl (refl, e)
chosen false x y z e = inr (refl, e)

-- a word that the test knew, or another
pub by_word : {X : Type 0} (P : Word → Type 0) (w t : Word) (first rest : Option X) (x : X) → cond (bytes_eq w t) first rest ≡ Some x
    → (first ≡ Some x → P t) → (rest ≡ Some x → P w) → P w
by_word P w t first rest x e known others = elim (chosen (bytes_eq w t) first rest (Some x) e) [
  | inl h ↦ subst P (sym ((bytes_eq-Decides w t).0 h.0)) (known h.1)
  | inr h ↦ others h.1
]

-- where the word names one thing
pub by_name : {X : Type 0} (P : Word → X → Type 0) (w t : Word) (named : X) (rest : Option X) (x : X)
    → cond (bytes_eq w t) (Some named) rest ≡ Some x → P t named → (rest ≡ Some x → P w x) → P w x
by_name P w t named rest x e known others =
    by_word (λ v. P v x) w t (Some named) rest x e (λ same. let is : named ≡ x = cc in subst (P t) is known) others

-- what holds of each of three values holds of any
abbrev pub Eight : (Bool → Bool → Bool → Type 0) → Type 0
Eight P = P true true true × P true true false × P true false true × P true false false
    × P false true true × P false true false × P false false true × P false false false

pub of_three : (P : Bool → Bool → Bool → Type 0) → Eight P → (a b c : Bool) → P a b c
of_three P h true true true = h.0
of_three P h true true false = h.1
of_three P h true false true = h.2
of_three P h true false false = h.3
of_three P h false true true = h.4
of_three P h false true false = h.5
of_three P h false false true = h.6
of_three P h false false false = h.7

-- and of four
pub of_four : (P : Bool → Bool → Bool → Bool → Type 0) → Eight (P true) → Eight (P false) → (a b c d : Bool) → P a b c d
of_four P h k true b c d = of_three (P true) h b c d
of_four P h k false b c d = of_three (P false) k b c d
