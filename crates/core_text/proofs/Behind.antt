-- Lines behind one another
use Rattle.std.proofs.Common.{◌≡◌, ◌≢◌, ◌∙◌, ℕ, zero, suc, ◌-◌, ◌<◌, List, [], ◌∷◌, ◌++◌, Bool, true, false, eqb, ap, append-nil, append_assoc, arith}
use Rattle.std.proofs.Common.{get_or, length, refl, subst, sym}
use Rattle.std.proofs.lemmas.Bool.Decides.{nat_tests}
use Rattle.trace_io.specs.Lines.{lines_of}
use Rattle.std.specs.Prelude.{codes, decimal}
use Rattle.cores.specs.declared.kept.Kept.{Kept}
use Rattle.core_text.specs.Told.{kept_text, numbered_text, told_line}

pub pushed_line : (a b c d front line : List ℕ) (lines : List (List ℕ)) (number : ℕ) → front ≡ decimal number ++ codes ": " → b ≡ a ++ front
    → line ≡ get_or lines (number - 1) [] → c ≡ b ++ line → d ≡ c ++ codes "\n" → d ≡ a ++ told_line lines number
pushed_line a b c d front line lines number e f g h i =
    i ∙ ap (λ (x : List ℕ). x ++ codes "\n") (h ∙ ap (λ (x : List ℕ). x ++ line) (f ∙ ap (λ (x : List ℕ). a ++ x) e)
    ∙ ap (λ (x : List ℕ). (a ++ (decimal number ++ codes ": ")) ++ x) g ∙ append_assoc a (decimal number ++ codes ": ") (get_or lines (number - 1) []))
    ∙ append_assoc a ((decimal number ++ codes ": ") ++ get_or lines (number - 1) []) (codes "\n")

pub pushed_kept : (a b c : List ℕ) (lines : List (List ℕ)) (numbers : List ℕ) (ks rest : List Kept) (k : Kept) → ks ≡ k ∷ rest
    → b ≡ a ++ told_line lines (get_or numbers k.number 0) → c ≡ b ++ kept_text lines numbers rest → c ≡ a ++ kept_text lines numbers ks
pushed_kept a b c lines numbers ks rest k e f g =
    g ∙ (ap (λ (x : List ℕ). x ++ kept_text lines numbers rest) f
    ∙ (append_assoc a (told_line lines (get_or numbers k.number 0)) (kept_text lines numbers rest)
    ∙ ap (λ (xs : List Kept). a ++ kept_text lines numbers xs) (sym e)))

pub pushed_none : (a : List ℕ) (lines : List (List ℕ)) (numbers : List ℕ) (ks : List Kept) → ks ≡ [] → a ≡ a ++ kept_text lines numbers ks
pushed_none a lines numbers ks e = sym (ap (λ (xs : List Kept). a ++ kept_text lines numbers xs) e ∙ append-nil a)

pub pushed_numbers : (a b c : List ℕ) (lines : List (List ℕ)) (ns rest : List ℕ) (n : ℕ) → ns ≡ n ∷ rest → b ≡ a ++ told_line lines n
    → c ≡ b ++ numbered_text lines rest → c ≡ a ++ numbered_text lines ns
pushed_numbers a b c lines ns rest n e f g =
    g ∙ (ap (λ (x : List ℕ). x ++ numbered_text lines rest) f
    ∙ (append_assoc a (told_line lines n) (numbered_text lines rest) ∙ ap (λ (xs : List ℕ). a ++ numbered_text lines xs) (sym e)))

pub pushed_no_number : (a : List ℕ) (lines : List (List ℕ)) (ns : List ℕ) → ns ≡ [] → a ≡ a ++ numbered_text lines ns
pushed_no_number a lines ns e = sym (ap (λ (xs : List ℕ). a ++ numbered_text lines xs) e ∙ append-nil a)

-- ---- one line among all

no_bytes : (bs : List ℕ) → length bs ≡ 0 → bs ≡ []
no_bytes [] e = refl
no_bytes (b ∷ bs) e = absurd (omega (arith, e))

pub no_line : (bs x : List ℕ) (b : Bool) (left : ℕ) → b ≡ eqb (length bs) 0 → b ≡ true → get_or (lines_of bs) left [] ≡ x → bs ≡ x
no_line bs x b left is so h =
    let none : length bs ≡ 0 = grind (arith, nat_tests, is, so) in
    let empty = no_bytes bs none in
    empty ∙ subst (λ (cs : List ℕ). get_or (lines_of cs) left [] ≡ x) empty h

pub some_left : (n : ℕ) (b : Bool) → b ≡ eqb n 0 → b ≡ false → 0 < n
some_left n b is not_so = grind (arith, nat_tests, is, not_so)

pub this_line : (ls ms : List (List ℕ)) (line x : List ℕ) (left : ℕ) → ls ≡ line ∷ ms → left ≡ 0 → get_or ls left [] ≡ x → line ≡ x
this_line ls ms line x left e none h =
    subst (λ (n : ℕ). get_or (line ∷ ms) n [] ≡ x) none (subst (λ (ks : List (List ℕ)). get_or ks left [] ≡ x) e h)

pub next_line : (ls ms : List (List ℕ)) (line x : List ℕ) (left : ℕ) → ls ≡ line ∷ ms → left ≢ 0 → get_or ls left [] ≡ x → get_or ms (left - 1) [] ≡ x
next_line ls ms line x left e some h = go left some (subst (λ (ks : List (List ℕ)). get_or ks left [] ≡ x) e h)
  where
    go : (n : ℕ) → n ≢ 0 → get_or (line ∷ ms) n [] ≡ x → get_or ms (n - 1) [] ≡ x
    go zero f g = absurd (f refl)
    go (suc n) f g = let less : suc n - 1 ≡ n = omega arith in subst (λ (k : ℕ). get_or ms k [] ≡ x) (sym less) g
