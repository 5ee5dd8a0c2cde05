-- The table of digits: what it has for each byte is what the byte stands for.
use Rattle.std.proofs.Common.{◌≡◌, inl, inr, ℕ, zero, suc, ◌+◌, ◌-◌, ◌<◌, ◌≤◌, List, [], ◌∷◌, Option, Some, None, get_or, arith, refl, ap, ◌∙◌}
use Rattle.std.proofs.lemmas.Bool.Decides.{nat_tests}
use Rattle.std.specs.Prelude.{nat_le, ◌&&◌}
use Rattle.trace_text.specs.Number.{digit_of}
use Rattle.trace_text.proofs.Choices.{chosen}
use Rattle.trace_text.specs.declared.number.TheConstants.{DIGITS}

-- a digit's value, or 255
abbrev entry : Option ℕ → ℕ
entry None = 255
entry (Some d) = d

-- the entries of so many bytes, from this one on
abbrev entries : ℕ → ℕ → List ℕ
entries byte zero = []
entries byte (suc n) = entry (digit_of byte) ∷ entries (suc byte) n

entries_at : (byte n c : ℕ) → c < n → get_or (entries byte n) c 0 ≡ entry (digit_of (byte + c))
entries_at byte zero c h = absurd (omega arith)
entries_at byte (suc n) zero h = let same : byte ≡ byte + 0 = omega arith in ap (λ b. entry (digit_of b)) same
entries_at byte (suc n) (suc c) h =
    let same : suc byte + c ≡ byte + suc c = omega arith in
    entries_at (suc byte) n c (omega arith) ∙ ap (λ b. entry (digit_of b)) same

table : DIGITS ≡ entries 0 256
table = refl

entry_at : (c : ℕ) → c < 256 → get_or DIGITS c 0 ≡ entry (digit_of c)
entry_at c within =
    let same : 0 + c ≡ c = omega arith in
    ap (λ (l : List ℕ). get_or l c 0) table ∙ entries_at 0 256 c within ∙ ap (λ b. entry (digit_of b)) same

-- what the table has is read as the digit
pub digit_read : (c : ℕ) → c < 256 → get_or DIGITS c 0 < 16 → Some (get_or DIGITS c 0) ≡ digit_of c
digit_read c within low = go (get_or DIGITS c 0) (digit_of c) (entry_at c within) low
  where
    go : (value : ℕ) (o : Option ℕ) → value ≡ entry o → value < 16 → Some value ≡ o
    go value None is low = absurd (omega arith)
    go value (Some d) is low = ap Some is

-- a digit of a base up to 16 is below 16
digit_low : (c d : ℕ) → digit_of c ≡ Some d → d < 16
digit_low c d e = elim (chosen (nat_le 48 c && nat_le c 57) _ _ (Some d) e) [
  | inl h ↦ let same : c - 48 ≡ d = (let g = h.1 in cc) in let range = h.0 in grind (arith, nat_tests)
  | inr h ↦ elim (chosen (nat_le 97 c && nat_le c 102) _ _ (Some d) h.1) [
    | inl k ↦ let same : c - 97 + 10 ≡ d = (let g = k.1 in cc) in let range = k.0 in grind (arith, nat_tests)
    | inr k ↦ elim (chosen (nat_le 65 c && nat_le c 70) _ _ (Some d) k.1) [
      | inl l ↦ let same : c - 65 + 10 ≡ d = (let g = l.1 in cc) in let range = l.0 in grind (arith, nat_tests)
      | inr l ↦ let bad = l.1 in absurd (cc)
    ]
  ]
]

pub digit_refused : (c : ℕ) → c < 256 → 16 ≤ get_or DIGITS c 0 → None ≡ digit_of c
digit_refused c within high = go (get_or DIGITS c 0) (digit_of c) refl (entry_at c within) high
  where
    go : (value : ℕ) (o : Option ℕ) → digit_of c ≡ o → value ≡ entry o → 16 ≤ value → None ≡ o
    go value None e is high = refl
    go value (Some d) e is high = let low : d < 16 = digit_low c d e in absurd (omega arith)
