-- Where the sign of a line stands.
use Rattle.std.proofs.Common.{◌≡◌, ℕ, true, false, cond, not, eqb, List, [], ◌∷◌, ◌++◌, arith, refl, sym, ap, ◌∙◌, subst, Option}
use Rattle.std.proofs.Common.{Some, None, append_assoc, zero, suc, ◌<◌, length, take, drop, get_or}
use Rattle.std.proofs.lemmas.Bool.{and_parts, not-true}
use Rattle.std.proofs.lemmas.List.{take-append-drop}
use Rattle.std.specs.Prelude.{IfNone}
use Rattle.trace_text.specs.Halves.{are_clear, AreHalves}

-- where the last sign stands
pub record Cut : Type 0 where
  pub front : List ℕ
  pub behind : List ℕ

at_sign : List ℕ → List ℕ → Cut
at_sign front behind = record { front = front; behind = behind }

cut_later : ℕ → List ℕ → Option Cut → Option Cut
cut_later x xs (Some c) = Some (at_sign (x ∷ c.front) c.behind)
cut_later x xs None = cond (eqb x 61) (Some (at_sign [] xs)) None

cut : List ℕ → Option Cut
cut [] = None
cut (x ∷ xs) = cut_later x xs (cut xs)

cut_none : (xs : List ℕ) → are_clear xs ≡ true → cut xs ≡ None
unfolding cut cut_later
cut_none [] e = refl
cut_none (x ∷ xs) e =
    let parts = and_parts (not (eqb x 61)) (are_clear xs) e in
    let more : cut xs ≡ None = cut_none xs parts.1 in
    let one : eqb x 61 ≡ false = not-true (eqb x 61) parts.0 in
    rw (more, one) refl

cut_at : (f b : List ℕ) → are_clear b ≡ true → cut (f ++ 61 ∷ b) ≡ Some (at_sign f b)
unfolding cut cut_later at_sign
cut_at [] b e = let none : cut b ≡ None = cut_none b e in rw none refl
cut_at (x ∷ xs) b e = let more : cut (xs ++ 61 ∷ b) ≡ Some (at_sign xs b) = cut_at xs b e in rw more refl

-- all but the last byte
short : List ℕ → List ℕ
short [] = []
short (x ∷ []) = []
short (x ∷ y ∷ ys) = x ∷ short (y ∷ ys)

short_end : (xs : List ℕ) (x : ℕ) → short (xs ++ x ∷ []) ≡ xs
unfolding short
short_end [] x = refl
short_end (y ∷ []) x = refl
short_end (y ∷ z ∷ zs) x = ap (λ l. y ∷ l) (short_end (z ∷ zs) x)

halves_cut : (bytes f b : List ℕ) → AreHalves bytes f b → cut bytes ≡ Some (at_sign (f ++ 32 ∷ []) (32 ∷ b))
halves_cut bytes f b h =
    let is : bytes ≡ f ++ 32 ∷ 61 ∷ 32 ∷ b = h.is in
    ap cut (is ∙ sym (append_assoc f (32 ∷ []) (61 ∷ 32 ∷ b))) ∙ cut_at (f ++ 32 ∷ []) (32 ∷ b) h.clear

same_cut : (f b g c : List ℕ) → Some (at_sign f b) ≡ Some (at_sign g c) → (f ≡ g) × (b ≡ c)
unfolding at_sign
same_cut f b g c e = let same : at_sign f b ≡ at_sign g c = cc in (ap (λ (p : Cut). p.front) same, ap (λ (p : Cut). p.behind) same)

tail_same : (b c : List ℕ) → 32 ∷ b ≡ 32 ∷ c → b ≡ c
tail_same b c e = cc

-- bytes have one pair of halves
pub halves_one : (bytes f b g c : List ℕ) → AreHalves bytes f b → AreHalves bytes g c → (f ≡ g) × (b ≡ c)
halves_one bytes f b g c h k =
    let (front, behind) = same_cut (f ++ 32 ∷ []) (32 ∷ b) (g ++ 32 ∷ []) (32 ∷ c) (sym (halves_cut bytes f b h) ∙ halves_cut bytes g c k) in
    (sym (short_end f 32) ∙ ap short front ∙ short_end g 32, tail_same b c behind)

-- ---- where the code finds the sign

drop_first : (xs : List ℕ) (n x : ℕ) (ys : List ℕ) → x ∷ ys ≡ drop n xs → drop (suc n) xs ≡ ys
drop_first [] zero x ys e = absurd (cc)
drop_first [] (suc n) x ys e = absurd (cc)
drop_first (z ∷ zs) zero x ys e = cc
drop_first (z ∷ zs) (suc n) x ys e = drop_first zs n x ys e

cut_found : (bytes before rest behind : List ℕ) (at : ℕ) → before ≡ take at bytes → rest ≡ drop at bytes → rest ≡ 61 ∷ behind
    → are_clear (drop (suc at) bytes) ≡ true → (bytes ≡ before ++ 61 ∷ behind) × (are_clear behind ≡ true)
cut_found bytes before rest behind at b r i h =
    let behind_is : drop (suc at) bytes ≡ behind = drop_first bytes at 61 behind (sym i ∙ r) in (
      sym (take-append-drop at bytes) ∙ ap (λ l. l ++ drop at bytes) (sym b)
          ∙ ap (λ l. before ++ l) (sym r ∙ i),
      subst (λ l. are_clear l ≡ true) behind_is h,
    )

pub halves_some : (bytes before rest front behind : List ℕ) (at : ℕ) → before ≡ take at bytes → rest ≡ drop at bytes → before ≡ front ++ 32 ∷ []
    → rest ≡ 61 ∷ 32 ∷ behind → are_clear (drop (suc at) bytes) ≡ true → AreHalves bytes front behind
halves_some bytes before rest front behind at b r p q h =
    let (is, clear) = cut_found bytes before rest (32 ∷ behind) at b r q h in
    record { is = is ∙ ap (λ l. l ++ 61 ∷ 32 ∷ behind) p ∙ append_assoc front (32 ∷ []) (61 ∷ 32 ∷ behind); clear = clear }

-- a sign that stands otherwise
drop_at : (xs : List ℕ) (n : ℕ) → n < length xs → drop n xs ≡ get_or xs n 0 ∷ drop (suc n) xs
drop_at [] n h = absurd (omega arith)
drop_at (x ∷ xs) zero h = refl
drop_at (x ∷ xs) (suc n) h = drop_at xs n (omega arith)

found_cut : (bytes : List ℕ) (at : ℕ) → at < length bytes → get_or bytes at 0 ≡ 61 → are_clear (drop (suc at) bytes) ≡ true
    → cut bytes ≡ Some (at_sign (take at bytes) (drop (suc at) bytes))
found_cut bytes at h s c =
    let is : bytes ≡ take at bytes ++ 61 ∷ drop (suc at) bytes =
    sym (take-append-drop at bytes) ∙ ap (λ l. take at bytes ++ l) (drop_at bytes at h ∙ ap (λ x. x ∷ drop (suc at) bytes) s) in
    ap cut is ∙ cut_at (take at bytes) (drop (suc at) bytes) c

pub halves_at : (bytes front behind : List ℕ) (at : ℕ) → at < length bytes → get_or bytes at 0 ≡ 61 → are_clear (drop (suc at) bytes) ≡ true
    → AreHalves bytes front behind → (take at bytes ≡ front ++ 32 ∷ []) × (drop at bytes ≡ 61 ∷ 32 ∷ behind)
halves_at bytes front behind at h s c k =
    let (before, rest) = same_cut (take at bytes) (drop (suc at) bytes) (front ++ 32 ∷ []) (32 ∷ behind)
    (sym (found_cut bytes at h s c) ∙ halves_cut bytes front behind k) in
    (before, drop_at bytes at h ∙ ap (λ x. x ∷ drop (suc at) bytes) s ∙ ap (λ l. 61 ∷ l) rest)

pub if_none : {X : Type 0} (r : Option X) (P : Type 0) → P → IfNone r P
if_none None P h = h
if_none (Some x) P h = tt
