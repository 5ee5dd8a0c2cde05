-- Pieces that are written one behind another at the front of an array.
use Rattle.std.proofs.Common.{◌≡◌, ℕ, ◌+◌, ◌^◌, ◌/◌, ◌%◌, ◌<◌, ◌≤◌, List, [], ◌∷◌, ◌++◌, length, take, decimal, arith}
use Rattle.std.proofs.Common.{sym, ap, ◌∙◌, append_assoc, take-take}
use Rattle.std.proofs.Math.Seq.{take-append-add}
use Rattle.std.proofs.lemmas.Fmt.{decimal_step}
use Rattle.std.proofs.lemmas.List.{length-set, length-take-le, take_more_set}
use Rattle.std.specs.Prelude.{slice_set}

-- of a piece only its front counts
pub front_put : (old new digits : List ℕ) (at len end : ℕ) → at ≤ length old → len ≤ length digits → end ≡ at + length digits
    → take end new ≡ take at old ++ digits → take (at + len) new ≡ take at old ++ take len digits
front_put old new digits at len end within some long is =
    let front : length (take at old) ≡ at = length-take-le at old within in
    sym (take-take (at + len) end new (omega arith))
    ∙ ap (take (at + len)) is
    ∙ ap (λ n. take (n + len) (take at old ++ digits)) (sym front)
    ∙ take-append-add (take at old) digits len

-- a number's last two digits, and those before
pub two_more : (n : ℕ) → 100 ≤ n → n < 2 ^ 64 → decimal n ≡ decimal (n / 100) ++ (48 + n % 100 / 10) ∷ (48 + n % 100 % 10) ∷ []
two_more n low high =
    let front : n / 10 / 10 ≡ n / 100 = omega arith in
    let tens : n / 10 % 10 ≡ n % 100 / 10 = omega arith in
    let ones : n % 10 ≡ n % 100 % 10 = omega arith in
    decimal_step n (omega arith) high
    ∙ ap (λ l. l ++ (48 + n % 10) ∷ []) (decimal_step (n / 10) (omega arith) (omega arith))
    ∙ append_assoc (decimal (n / 10 / 10)) ((48 + n / 10 % 10) ∷ []) ((48 + n % 10) ∷ [])
    ∙ ap (λ k. decimal k ++ (48 + n / 10 % 10) ∷ (48 + n % 10) ∷ []) front
    ∙ ap (λ k. decimal (n / 100) ++ (48 + k) ∷ (48 + n % 10) ∷ []) tens
    ∙ ap (λ k. decimal (n / 100) ++ (48 + n % 100 / 10) ∷ (48 + k) ∷ []) ones

-- two elements that are set, one behind the other
pub two_put : (bytes : List ℕ) (at one other : ℕ) → at + 2 ≤ length bytes
    → take (at + 2) (slice_set (slice_set bytes at one) (at + 1) other) ≡ take at bytes ++ one ∷ other ∷ []
two_put bytes at one other room =
    let next : at + 2 ≡ at + 1 + 1 = omega arith in
    let first = slice_set bytes at one in
    ap (λ n. take n (slice_set first (at + 1) other)) next
    ∙ take_more_set first (at + 1) other (omega (arith, length-set bytes at one, room))
    ∙ ap (λ l. l ++ other ∷ []) (take_more_set bytes at one (omega (arith, room)))
    ∙ append_assoc (take at bytes) (one ∷ []) (other ∷ [])
