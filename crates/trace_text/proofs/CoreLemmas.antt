-- Names of cores.
use Rattle.std.proofs.Common.{inl, inr, List, eqb, decimal, sym, ◌≡◌, ℕ, ◌+◌, ◌-◌, ◌*◌, ◌/◌, ◌%◌, ◌<◌, ◌≤◌}
use Rattle.std.proofs.Common.{true, false, cond, [], ◌∷◌, ◌++◌, Some, None, arith, ap, ◌∙◌}
use Rattle.std.specs.Prelude.{nat_le, nat_lt, ◌&&◌}
use Rattle.std.proofs.lemmas.Bool.{cases_lt}
use Rattle.std.proofs.lemmas.Bool.Decides.{nat_tests}
use Rattle.std.proofs.lemmas.Fmt.{decimal_digit, decimal_step}
use Rattle.trace_text.specs.Words.{Word}
use Rattle.trace_text.specs.Line.{core_number, core_of}
use Rattle.trace_text.specs.Spelling.{SpellsCore}
use Rattle.trace_text.proofs.Choices.{chosen}

pub one : (c : ℕ) → c < 10 → core_number ((48 + c) ∷ []) ≡ Some c
one c h =
    let test : nat_le 48 (48 + c) && nat_le (48 + c) 57 ≡ true = grind (arith, nat_tests) in
    ap (λ b. cond b (Some (48 + c - 48)) None) test ∙ ap (λ n. Some n) (omega arith)

two : (c : ℕ) → 10 ≤ c → c < 64 → core_number ((48 + c / 10) ∷ (48 + c % 10) ∷ []) ≡ Some c
two c low h =
    let test : nat_le 49 (48 + c / 10) && nat_le (48 + c / 10) 57 && nat_le 48 (48 + c % 10) && nat_le (48 + c % 10) 57 ≡ true = grind (arith, nat_tests) in
    let whole : 10 * (48 + c / 10 - 48) + (48 + c % 10 - 48) ≡ c = omega arith in
    let fits : nat_lt 63 c ≡ false = grind (arith, nat_tests) in
    ap (λ b. cond b (cond (nat_lt 63 (10 * (48 + c / 10 - 48) + (48 + c % 10 - 48))) None (Some (10 * (48 + c / 10 - 48) + (48 + c % 10 - 48)))) None) test
    ∙ ap (λ n. cond (nat_lt 63 n) None (Some n)) whole ∙ ap (λ b. cond b None (Some c)) fits

pub two_digits : (c : ℕ) → 10 ≤ c → c < 64 → decimal c ≡ (48 + c / 10) ∷ (48 + c % 10) ∷ []
two_digits c high h = decimal_step c high (omega arith) ∙ ap (λ l. l ++ (48 + c % 10) ∷ []) (decimal_digit (c / 10) (omega arith))

pub names_core : (core : ℕ) → core < 64 → core_number (decimal core) ≡ Some core
names_core core h = elim (cases_lt core 10) [
  | inl low ↦ ap core_number (decimal_digit core low) ∙ one core low
  | inr high ↦ ap core_number (two_digits core high h) ∙ two core high h
]

pub core_all : (word : Word) (core : ℕ) → SpellsCore word core → core_of word ≡ Some core
core_all word core (h, e) = ap core_of e ∙ names_core core h

number_only : (ds : List ℕ) (c : ℕ) → core_number ds ≡ Some c → (c < 64) × (ds ≡ decimal c)
number_only [] c p = absurd (cc)
number_only (d ∷ []) c p = elim (chosen (nat_le 48 d && nat_le d 57) (Some (d - 48)) None (Some c) p) [
  | inl h ↦
      let is : d - 48 ≡ c = (let g = h.1 in cc) in
      let low : 48 ≤ d = grind (arith, nat_tests, h.0) in
      let high : d ≤ 57 = grind (arith, nat_tests, h.0) in
      let digit : d ≡ 48 + c = omega arith in
      (omega arith, ap (λ x. x ∷ []) digit ∙ sym (decimal_digit c (omega arith)))
  | inr h ↦ let bad = h.1 in absurd (cc)
]
number_only (d ∷ (e ∷ [])) c p = elim (chosen (nat_le 49 d && nat_le d 57 && nat_le 48 e && nat_le e 57)
    (cond (nat_lt 63 (10 * (d - 48) + (e - 48))) None (Some (10 * (d - 48) + (e - 48)))) None (Some c) p) [
      | inl h ↦ elim (chosen (nat_lt 63 (10 * (d - 48) + (e - 48))) None (Some (10 * (d - 48) + (e - 48))) (Some c) h.1) [
        | inl k ↦ let bad = k.1 in absurd (cc)
        | inr k ↦
            let is : 10 * (d - 48) + (e - 48) ≡ c = (let g = k.1 in cc) in
            let low : 49 ≤ d = grind (arith, nat_tests, h.0) in
            let first_high : d ≤ 57 = grind (arith, nat_tests, h.0) in
            let last : 48 ≤ e = grind (arith, nat_tests, h.0) in
            let last_high : e ≤ 57 = grind (arith, nat_tests, h.0) in
            let few : 10 * (d - 48) + (e - 48) ≤ 63 = grind (arith, nat_tests, k.0) in
            let small : c < 64 = omega arith in
            let first : d ≡ 48 + c / 10 = omega arith in
            let second : e ≡ 48 + c % 10 = omega arith in
            (small, ap (λ x. x ∷ e ∷ []) first ∙ ap (λ x. (48 + c / 10) ∷ x ∷ []) second ∙ sym (two_digits c (omega arith) small))
      ]
      | inr h ↦ let bad = h.1 in absurd (cc)
    ]
number_only (d ∷ (e ∷ (f ∷ fs))) c p = absurd (cc)

pub core_only : (word : Word) (core : ℕ) → core_of word ≡ Some core → SpellsCore word core
core_only [] c p = absurd (cc)
core_only (x ∷ ds) c p = elim (chosen (eqb x 99) (core_number ds) None (Some c) p) [
  | inl h ↦
      let is : x ≡ 99 = grind (arith, nat_tests, h.0) in
      let (small, digits) = number_only ds c h.1 in
      (small, ap (λ y. y ∷ ds) is ∙ ap (λ l. 99 ∷ l) digits)
  | inr h ↦ let bad = h.1 in absurd (cc)
]
