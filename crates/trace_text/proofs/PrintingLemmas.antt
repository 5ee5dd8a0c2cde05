-- Digits of a number before its last one.
use Rattle.std.proofs.Common.{◌≡◌, ℕ, ◌+◌, ◌^◌, ◌*◌, ◌/◌, ◌%◌, ◌<◌, ◌≤◌, List, [], ◌∷◌, ◌++◌, length, map, arith}
use Rattle.std.proofs.Common.{append_assoc, decimal, false, codes, refl, sym, ap, ◌∙◌, cond, eqb}
use Rattle.std.proofs.lemmas.Bool.{ne_eqb}
use Rattle.std.proofs.lemmas.Fmt.{decimal_digit, decimal_step}
use Rattle.std.proofs.lemmas.Int.Digits.{digits_of_step, length-digits_of_step, length-digits_of-le}
use Rattle.std.proofs.lemmas.List.{map-append, length-append, length-map}
use Rattle.std.specs.Fmt.{digit_glyph}
use Rattle.std.specs.Int.Digits.{digits_of}
use Rattle.trace_text.specs.Printing.{address_of, hexadecimal}
use Rattle.trace_text.specs.Lists.{start_of}

-- an address has at most 16 digits
pub address_digits : (n : ℕ) → n < 2 ^ 64 → length (digits_of 16 n) ≤ 16
address_digits n h = length-digits_of-le 16 16 n (omega arith) (omega (arith, h))

pub digits_before : (n : ℕ) → 0 < n → length (digits_of 16 n) ≡ length (digits_of 16 (n / 16)) + 1
digits_before n h = length-digits_of_step 16 n (omega arith) h

-- the text of the digits before, and the last one
pub digits_more : (n : ℕ) (front new : List ℕ) (glyph : ℕ) → 0 < n → new ≡ front ++ map (digit_glyph false) (digits_of 16 (n / 16))
    → glyph ≡ digit_glyph false (n % 16)
    → new ++ glyph ∷ [] ≡ front ++ map (digit_glyph false) (digits_of 16 n)
digits_more n front new glyph h e g =
    rw (e, g, digits_of_step 16 n (omega arith) h, map-append (digit_glyph false) (digits_of 16 (n / 16)) (n % 16 ∷ []))
    (append_assoc front (map (digit_glyph false) (digits_of 16 (n / 16))) (digit_glyph false (n % 16) ∷ []))

pub length_printed : (front ds : List ℕ) → length (front ++ map (digit_glyph false) ds) ≡ length front + length ds
length_printed front ds = omega (arith, length-append front (map (digit_glyph false) ds), length-map ds (digit_glyph false))

-- sixteen times a number has one more digit, a 0
digits_shifted : (n m : ℕ) → 0 < n → m ≡ n * 16 → digits_of 16 m ≡ digits_of 16 n ++ 0 ∷ []
digits_shifted n m h e =
    let front : m / 16 ≡ n = omega (arith, e) in
    let last : m % 16 ≡ 0 = omega (arith, e) in
    digits_of_step 16 m (omega arith) (omega (arith, e)) ∙ ap (λ k. digits_of 16 k ++ m % 16 ∷ []) front
    ∙ ap (λ d. digits_of 16 n ++ d ∷ []) last

-- and 4096 times a number has three more
digits_of_start : (n : ℕ) → 0 < n → digits_of 16 (n * 4096) ≡ digits_of 16 n ++ 0 ∷ 0 ∷ 0 ∷ []
digits_of_start n h =
    digits_shifted (n * 256) (n * 4096) (omega arith) (omega arith)
    ∙ ap (λ ds. ds ++ 0 ∷ []) (digits_shifted (n * 16) (n * 256) (omega arith) (omega arith)
    ∙ ap (λ ds. ds ++ 0 ∷ []) (digits_shifted n (n * 16) h refl))
    ∙ append_assoc (digits_of 16 n ++ 0 ∷ []) (0 ∷ []) (0 ∷ []) ∙ append_assoc (digits_of 16 n) (0 ∷ []) (0 ∷ 0 ∷ [])

hexadecimal_digits : (n : ℕ) → 0 < n → hexadecimal n ≡ map (digit_glyph false) (digits_of 16 n)
hexadecimal_digits n h =
    let some : eqb n 0 ≡ false = ne_eqb n 0 (λ e. absurd (omega (arith, h, e))) in
    ap (λ b. cond b (codes "0") (map (digit_glyph false) (digits_of 16 n))) some

-- the digits of a page's number, and three of 0 behind them, are those of its address
pub start_printed : (n : ℕ) (text number new : List ℕ) → 0 < n → number ≡ text ++ address_of n → new ≡ number ++ codes "000"
    → new ≡ text ++ start_of n
start_printed n text number new h e f =
    let short = hexadecimal_digits n h in
    let long = hexadecimal_digits (n * 4096) (omega (arith, h)) in
    let shifted = map-append (digit_glyph false) (digits_of 16 n) (0 ∷ 0 ∷ 0 ∷ []) in
    let more = long ∙ ap (map (digit_glyph false)) (digits_of_start n h) ∙ shifted ∙ ap (λ ds. ds ++ codes "000") (sym short) in
    f ∙ ap (λ t. t ++ codes "000") e ∙ append_assoc text (address_of n) (codes "000")
    ∙ ap (λ ds. text ++ (codes "0x" ++ ds)) (sym more)

-- ---- a byte, digit by digit

pub tens : (b : ℕ) → 10 ≤ b → b < 100 → decimal b ≡ (48 + b / 10) ∷ (48 + b % 10) ∷ []
tens b low high = decimal_step b low (omega arith) ∙ ap (λ l. l ++ (48 + b % 10) ∷ []) (decimal_digit (b / 10) (omega arith))

pub hundreds : (b : ℕ) → 100 ≤ b → b < 256 → decimal b ≡ (48 + b / 100) ∷ (48 + b / 10 % 10) ∷ (48 + b % 10) ∷ []
hundreds b low high =
    let first : b / 10 / 10 ≡ b / 100 = omega arith in
    decimal_step b (omega arith) (omega arith) ∙ ap (λ l. l ++ (48 + b % 10) ∷ []) (tens (b / 10) (omega arith) (omega arith))
    ∙ ap (λ k. (48 + k) ∷ (48 + b / 10 % 10) ∷ (48 + b % 10) ∷ []) first

pub one_put : (old new : List ℕ) (b x : ℕ) → b < 10 → x ≡ 48 + b → new ≡ old ++ x ∷ [] → new ≡ old ++ decimal b
one_put old new b x low is e = e ∙ ap (λ c. old ++ c ∷ []) is ∙ ap (λ l. old ++ l) (sym (decimal_digit b low))

pub two_put : (old mid new : List ℕ) (b x y : ℕ) → 10 ≤ b → b < 100 → x ≡ 48 + b / 10 → y ≡ 48 + b % 10 → mid ≡ old ++ x ∷ [] → new ≡ mid ++ y ∷ []
    → new ≡ old ++ decimal b
two_put old mid new b x y low high is same e f =
    f ∙ ap (λ l. l ++ y ∷ []) e ∙ append_assoc old (x ∷ []) (y ∷ []) ∙ ap (λ c. old ++ c ∷ y ∷ []) is ∙ ap (λ c. old ++ (48 + b / 10) ∷ c ∷ []) same
    ∙ ap (λ l. old ++ l) (sym (tens b low high))

pub three_put : (old one two new : List ℕ) (b x y z : ℕ) → 100 ≤ b → b < 256 → x ≡ 48 + b / 100 → y ≡ 48 + b / 10 % 10 → z ≡ 48 + b % 10
    → one ≡ old ++ x ∷ [] → two ≡ one ++ y ∷ [] → new ≡ two ++ z ∷ [] → new ≡ old ++ decimal b
three_put old one two new b x y z low high is same last e f g =
    g ∙ ap (λ l. l ++ z ∷ []) (f ∙ ap (λ l. l ++ y ∷ []) e ∙ append_assoc old (x ∷ []) (y ∷ [])) ∙ append_assoc old (x ∷ y ∷ []) (z ∷ [])
    ∙ ap (λ c. old ++ c ∷ y ∷ z ∷ []) is ∙ ap (λ c. old ++ (48 + b / 100) ∷ c ∷ z ∷ []) same
    ∙ ap (λ c. old ++ (48 + b / 100) ∷ (48 + b / 10 % 10) ∷ c ∷ []) last ∙ ap (λ l. old ++ l) (sym (hundreds b low high))
