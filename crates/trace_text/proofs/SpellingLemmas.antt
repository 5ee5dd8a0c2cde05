-- Numbers: what spells them is read, and what is read spells them.
use Rattle.std.proofs.Common.{◌≡◌, ◌≢◌, inl, inr, ℕ, zero, suc, ◌+◌, ◌-◌, ◌*◌, ◌^◌, ◌<◌, ◌≤◌, true, false, cond, eqb, ltb, List, [], ◌∷◌, ◌++◌}
use Rattle.std.proofs.Common.{length, map, Option, Some, None, codes, decimal, arith, refl, sym, ap, ◌∙◌, subst, slice_get}
use Rattle.std.proofs.lemmas.Bool.{cases_lt, lt-ltb}
use Rattle.std.proofs.lemmas.Bool.Decides.{nat_tests}
use Rattle.std.proofs.lemmas.Fmt.{decimal_digit, decimal-digits_of}
use Rattle.std.proofs.lemmas.Int.Digits.{all_below_base_digits_of, number_digits_of}
use Rattle.std.specs.Prelude.{nat_le, ◌&&◌, option_and_then}
use Rattle.std.specs.Fmt.{digit_glyph}
use Rattle.std.specs.Int.Digits.{AllBelowBase, digits_of, number_from_digits, number_from_digits_after}
use Rattle.std.specs.List.{AllZip}
use Rattle.trace_text.specs.Words.{Word}
use Rattle.trace_text.specs.Number.{digit_of, value_from, below_word, number_of}
use Rattle.trace_text.specs.Request.{◌>>=◌, front_byte, front_number}
use Rattle.trace_text.specs.Printing.{hexadecimal, address_of}
use Rattle.trace_text.specs.Spelling.{IsDigit, SpellsIn, SpellsNumber}
use Rattle.trace_text.specs.Grammar.{ReadsPrinted}
use Rattle.trace_text.proofs.Choices.{bind_some, chosen}

-- ---- digits

-- the bytes from a on, one after another
Follow : List ℕ → ℕ → Type 0
Follow [] a = Unit {0}
Follow (x ∷ xs) a = (x ≡ a) × Follow xs (suc a)

follows : (xs ys : List ℕ) (a d : ℕ) → Follow xs a → d < length xs → slice_get (xs ++ ys) d ≡ Some (a + d)
unfolding Follow
follows [] ys a d f h = absurd (omega arith)
follows (x ∷ xs) ys a zero f h = ap Some (f.0 ∙ omega arith)
follows (x ∷ xs) ys a (suc d) f h = follows xs ys (suc a) d f.1 (omega arith) ∙ ap Some (omega arith)

-- behind the first ten
behind : (xs ys : List ℕ) (n d : ℕ) → n ≡ length xs → slice_get (xs ++ ys) (n + d) ≡ slice_get ys d
behind [] ys n d e = ap (slice_get ys) (omega arith)
behind (x ∷ xs) ys n d e =
    let more : n + d ≡ suc (length xs + d) = omega arith in ap (slice_get (x ∷ (xs ++ ys))) more ∙ behind xs ys (length xs) d refl

-- places from k on stand for k and more
Stand : List ℕ → ℕ → Type 0
Stand [] k = Unit {0}
Stand (x ∷ xs) k = (digit_of x ≡ Some k) × Stand xs (suc k)

stands : (xs : List ℕ) (k d c : ℕ) → Stand xs k → slice_get xs d ≡ Some c → digit_of c ≡ Some (k + d)
unfolding Stand
stands [] k d c f e = absurd (cc)
stands (x ∷ xs) k zero c f e = let same : x ≡ c = cc in ap digit_of (sym same) ∙ f.0 ∙ ap Some (omega arith)
stands (x ∷ xs) k (suc d) c f e = stands xs (suc k) d c f.1 e ∙ ap Some (omega arith)

pub digit_all : (base c d : ℕ) → IsDigit base c d → digit_of c ≡ Some d
unfolding Stand
digit_all base c d (h, inl e) =
    stands (codes "0123456789abcdef") 0 d c
    (refl, (refl, (refl, (refl, (refl, (refl, (refl, (refl, (refl, (refl, (refl, (refl, (refl, (refl, (refl, (refl, tt))))))))))))))))
    e ∙ ap Some (omega arith)
digit_all base c d (h, inr e) =
    stands (codes "0123456789ABCDEF") 0 d c
    (refl, (refl, (refl, (refl, (refl, (refl, (refl, (refl, (refl, (refl, (refl, (refl, (refl, (refl, (refl, (refl, tt))))))))))))))))
    e ∙ ap Some (omega arith)

ten : (d : ℕ) → d < 10 → slice_get (codes "0123456789abcdef") d ≡ Some (48 + d)
unfolding Follow
ten d h = follows (codes "0123456789") (codes "abcdef") 48 d (refl, (refl, (refl, (refl, (refl, (refl, (refl, (refl, (refl, (refl, tt)))))))))) h

lower : (d : ℕ) → d < 6 → slice_get (codes "0123456789abcdef") (10 + d) ≡ Some (97 + d)
unfolding Follow
lower d h = behind (codes "0123456789") (codes "abcdef") 10 d refl ∙ follows (codes "abcdef") [] 97 d (refl, (refl, (refl, (refl, (refl, (refl, tt)))))) h

upper : (d : ℕ) → d < 6 → slice_get (codes "0123456789ABCDEF") (10 + d) ≡ Some (65 + d)
unfolding Follow
upper d h = behind (codes "0123456789") (codes "ABCDEF") 10 d refl ∙ follows (codes "ABCDEF") [] 65 d (refl, (refl, (refl, (refl, (refl, (refl, tt)))))) h

digit_only : (base c d : ℕ) → digit_of c ≡ Some d → d < base → IsDigit base c d
digit_only base c d e h = elim (chosen (nat_le 48 c && nat_le c 57) (Some (c - 48)) _ (Some d) e) [
  | inl k ↦
      let is : c - 48 ≡ d = (let g = k.1 in cc) in
      let low : 48 ≤ c = grind (arith, nat_tests, k.0) in
      let high : c ≤ 57 = grind (arith, nat_tests, k.0) in
      (h, inl (ten d (omega arith) ∙ ap Some (omega arith)))
  | inr k ↦ elim (chosen (nat_le 97 c && nat_le c 102) (Some (c - 97 + 10)) _ (Some d) k.1) [
    | inl l ↦
        let is : c - 97 + 10 ≡ d = (let g = l.1 in cc) in
        let low : 97 ≤ c = grind (arith, nat_tests, l.0) in
        let high : c ≤ 102 = grind (arith, nat_tests, l.0) in
        let place : d ≡ 10 + (c - 97) = omega arith in
        (h, inl (ap (slice_get (codes "0123456789abcdef")) place ∙ lower (c - 97) (omega arith) ∙ ap Some (omega arith)))
    | inr l ↦ elim (chosen (nat_le 65 c && nat_le c 70) (Some (c - 65 + 10)) None (Some d) l.1) [
      | inl m ↦
          let is : c - 65 + 10 ≡ d = (let g = m.1 in cc) in
          let low : 65 ≤ c = grind (arith, nat_tests, m.0) in
          let high : c ≤ 70 = grind (arith, nat_tests, m.0) in
          let place : d ≡ 10 + (c - 65) = omega arith in
          (h, inr (ap (slice_get (codes "0123456789ABCDEF")) place ∙ upper (c - 65) (omega arith) ∙ ap Some (omega arith)))
      | inr m ↦ let bad = m.1 in absurd (cc)
    ]
  ]
]

-- ---- values

value_all : (base n : ℕ) (cs ds : List ℕ) → AllZip (IsDigit base) cs ds → value_from base n cs ≡ Some (number_from_digits_after base n ds)
value_all base n [] [] z = refl
value_all base n [] (d ∷ ds) z = absurd z
value_all base n (c ∷ cs) [] z = absurd z
value_all base n (c ∷ cs) (d ∷ ds) z =
    let digit : digit_of c ≡ Some d = digit_all base c d z.0 in
    let test : ltb d base ≡ true = lt-ltb d base z.0.0 in
    ap (option_and_then (λ x. cond (ltb x base) (value_from base (n * base + x) cs) None)) digit
    ∙ ap (λ b. cond b (value_from base (n * base + d) cs) None) test ∙ value_all base (n * base + d) cs ds z.1

pub record IsValue (base n : ℕ) (cs : List ℕ) (v : ℕ) : Type 0 where
  pub digits : List ℕ
  pub each : AllZip (IsDigit base) cs digits
  pub value : v ≡ number_from_digits_after base n digits

value_only : (base n : ℕ) (cs : List ℕ) (v : ℕ) → value_from base n cs ≡ Some v → IsValue base n cs v
value_only base n [] v e = record { digits = []; each = tt; value = (cc) }
value_only base n (c ∷ cs) v e = go (λ m k. value_only base m cs v k) (digit_of c) refl e
  where
    go : ((m : ℕ) → value_from base m cs ≡ Some v → IsValue base m cs v) → (o : Option ℕ) → digit_of c ≡ o
        → option_and_then (λ x. cond (ltb x base) (value_from base (n * base + x) cs) None) o ≡ Some v → IsValue base n (c ∷ cs) v
    go others None k e = absurd (cc)
    go others (Some d) k e = elim (chosen (ltb d base) (value_from base (n * base + d) cs) None (Some v) e) [
      | inl h ↦
          let low : d < base = grind (arith, nat_tests, h.0) in
          let rest : IsValue base (n * base + d) cs v = others (n * base + d) h.1 in
          record { digits = d ∷ rest.digits; each = (digit_only base c d k low, rest.each); value = rest.value }
      | inr h ↦ let bad = h.1 in absurd (cc)
    ]

fits : (o : Option ℕ) (n : ℕ) → o ≡ Some n → n < 2 ^ 64 → below_word o ≡ Some n
fits None n e h = absurd (cc)
fits (Some m) n e h =
    let same : m ≡ n = cc in
    let test : ltb m (2 ^ 64) ≡ true = lt-ltb m (2 ^ 64) (subst (λ k. k < 2 ^ 64) (sym same) h) in
    ap (λ b. cond b (Some m) None) test ∙ ap Some same

fitted : (o : Option ℕ) (n : ℕ) → below_word o ≡ Some n → (o ≡ Some n) × (n < 2 ^ 64)
fitted None n e = absurd (cc)
fitted (Some m) n e = elim (chosen (ltb m (2 ^ 64)) (Some m) None (Some n) e) [
  | inl h ↦ let same : m ≡ n = (let g = h.1 in cc) in let low : m < 2 ^ 64 = grind (arith, nat_tests, h.0) in (h.1, subst (λ k. k < 2 ^ 64) same low)
  | inr h ↦ let bad = h.1 in absurd (cc)
]

-- ---- words

read_in : (base n : ℕ) (word : Word) → n < 2 ^ 64 → SpellsIn base word n → below_word (value_from base 0 word) ≡ Some n
read_in base n word h s = fits (value_from base 0 word) n (value_all base 0 word s.digits s.each ∙ ap Some (sym s.value)) h

spelled_in : (base n : ℕ) (word : Word) → 0 < length word → below_word (value_from base 0 word) ≡ Some n → (n < 2 ^ 64) × SpellsIn base word n
spelled_in base n word some e =
    let (v, h) = fitted (value_from base 0 word) n e in
    let is : IsValue base 0 word n = value_only base 0 word n v in
    (h, record { digits = is.digits; each = is.each; some = some; value = is.value })

-- x is no decimal digit, so that 0x begins no decimal number
pub no_x : (c d : ℕ) (cs ds : List ℕ) → AllZip (IsDigit 10) (c ∷ d ∷ cs) ds → (eqb c 48 && eqb d 120) ≡ false
no_x c d cs [] z = absurd z
no_x c d cs (x ∷ []) z = absurd z.1
no_x c d cs (x ∷ (y ∷ ys)) z =
    let digit : digit_of d ≡ Some y = digit_all 10 d y z.1.0 in
    let other : d ≢ 120 = (λ e. let bad : digit_of 120 ≡ Some y = ap digit_of (sym e) ∙ digit in cc) in
    grind (arith, nat_tests, other)

hexed : (word digits : Word) (n : ℕ) → n < 2 ^ 64 → word ≡ codes "0x" ++ digits → SpellsIn 16 digits n → number_of word ≡ Some n
hexed word [] n h e s = let some = s.some in absurd (omega arith)
hexed word (c ∷ cs) n h e s = ap number_of e ∙ read_in 16 n (c ∷ cs) h s

pub number_all : (word : Word) (n : ℕ) → SpellsNumber word n → number_of word ≡ Some n
number_all word n (h, inr (digits, e, s)) = hexed word digits n h e s
number_all [] n (h, inl s) = let some = s.some in absurd (omega arith)
number_all (c ∷ []) n (h, inl s) = read_in 10 n (c ∷ []) h s
number_all (c ∷ (d ∷ ds)) n (h, inl s) =
    let test : (eqb c 48 && eqb d 120) ≡ false = no_x c d ds s.digits s.each in
    rw test (read_in 10 n (c ∷ (d ∷ ds)) h s)

pub number_only : (word : Word) (n : ℕ) → number_of word ≡ Some n → SpellsNumber word n
number_only [] n e = absurd (cc)
number_only (c ∷ []) n e = let (h, s) = spelled_in 10 n (c ∷ []) (omega arith) e in (h, inl s)
number_only (c ∷ (d ∷ [])) n e = elim (chosen (eqb c 48 && eqb d 120) None (below_word (value_from 10 0 (c ∷ d ∷ []))) (Some n) e) [
  | inl k ↦ let bad = k.1 in absurd (cc)
  | inr k ↦ let (h, s) = spelled_in 10 n (c ∷ (d ∷ [])) (omega arith) k.1 in (h, inl s)
]
number_only (c ∷ (d ∷ (x ∷ xs))) n e = elim (chosen (eqb c 48 && eqb d 120) (below_word (value_from 16 0 (x ∷ xs)))
    (below_word (value_from 10 0 (c ∷ d ∷ x ∷ xs))) (Some n) e) [
      | inl k ↦
          let zero_byte : c ≡ 48 = grind (arith, nat_tests, k.0) in
          let x_byte : d ≡ 120 = grind (arith, nat_tests, k.0) in
          let (h, s) = spelled_in 16 n (x ∷ xs) (omega arith) k.1 in
          (h, inr (x ∷ xs, ap (λ a. a ∷ d ∷ x ∷ xs) zero_byte ∙ ap (λ a. 48 ∷ a ∷ x ∷ xs) x_byte, s))
      | inr k ↦ let (h, s) = spelled_in 10 n (c ∷ (d ∷ (x ∷ xs))) (omega arith) k.1 in (h, inl s)
    ]

-- ---- what is printed

glyph : (d : ℕ) → d < 16 → IsDigit 16 (digit_glyph false d) d
glyph d h = elim (cases_lt d 10) [
  | inl low ↦ (h, inl (ten d low ∙ ap Some (sym (ap (λ b. cond b (48 + d) (87 + d)) (lt-ltb d 10 low)))))
  | inr high ↦
      let test : ltb d 10 ≡ false = grind (arith, nat_tests) in
      let place : d ≡ 10 + (d - 10) = omega arith in
      let value : 97 + (d - 10) ≡ 87 + d = omega arith in (
        h,
        inl (ap (slice_get (codes "0123456789abcdef")) place ∙ lower (d - 10) (omega arith)
            ∙ ap Some (value ∙ sym (ap (λ b. cond b (48 + d) (87 + d)) test))),
      )
]

decimals : (ds : List ℕ) → AllBelowBase 10 ds → AllZip (IsDigit 10) (map (λ d. 48 + d) ds) ds
decimals [] h = tt
decimals (d ∷ ds) h = ((h.0, inl (ten d h.0)), decimals ds h.1)

hexadecimals : (ds : List ℕ) → AllBelowBase 16 ds → AllZip (IsDigit 16) (map (digit_glyph false) ds) ds
hexadecimals [] h = tt
hexadecimals (d ∷ ds) h = (glyph d h.0, hexadecimals ds h.1)

-- what writes a number that isn't 0 isn't empty
some_digit : (f : ℕ → ℕ) (base n : ℕ) (ds : List ℕ) → 0 < n → number_from_digits base ds ≡ n → 0 < length (map f ds)
some_digit f base n [] h e = absurd (omega arith)
some_digit f base n (d ∷ ds) h e = omega arith

pub decimal_spells : (n : ℕ) → 0 < n → n < 2 ^ 64 → SpellsIn 10 (decimal n) n
decimal_spells n some h =
    let value : number_from_digits 10 (digits_of 10 n) ≡ n = number_digits_of 10 n (omega arith) in
    subst (λ w. SpellsIn 10 w n) (sym (decimal-digits_of n some h)) (record {
      digits = digits_of 10 n;
      each = decimals (digits_of 10 n) (all_below_base_digits_of 10 n (omega arith));
      some = some_digit (λ d. 48 + d) 10 n (digits_of 10 n) some value;
      value = sym value;
    })

pub hexadecimal_spells : (n : ℕ) → 0 < n → SpellsIn 16 (hexadecimal n) n
hexadecimal_spells n some =
    let value : number_from_digits 16 (digits_of 16 n) ≡ n = number_digits_of 16 n (omega arith) in
    let test : eqb n 0 ≡ false = grind (arith, nat_tests) in
    subst (λ w. SpellsIn 16 w n) (sym (ap (λ b. cond b (codes "0") (map (digit_glyph false) (digits_of 16 n))) test)) (record {
      digits = digits_of 16 n;
      each = hexadecimals (digits_of 16 n) (all_below_base_digits_of 16 n (omega arith));
      some = some_digit (digit_glyph false) 16 n (digits_of 16 n) some value;
      value = sym value;
    })

-- and of 0
zero_is : (base : ℕ) → 0 < base → SpellsIn base (codes "0") 0
zero_is base h = record { digits = 0 ∷ []; each = ((h, inl refl), tt); some = omega arith; value = omega arith }

pub decimal_is : (n : ℕ) → n < 2 ^ 64 → SpellsIn 10 (decimal n) n
decimal_is zero h = subst (λ w. SpellsIn 10 w 0) (sym (decimal_digit 0 (omega arith))) (zero_is 10 (omega arith))
decimal_is (suc n) h = decimal_spells (suc n) (omega arith) h

pub hexadecimal_is : (n : ℕ) → SpellsIn 16 (hexadecimal n) n
hexadecimal_is zero = zero_is 16 (omega arith)
hexadecimal_is (suc n) = hexadecimal_spells (suc n) (omega arith)

pub reads_printed : ReadsPrinted
reads_printed n h = (
  number_all (decimal n) n (h, inl (decimal_is n h)),
  number_all (address_of n) n (h, inr (hexadecimal n, refl, hexadecimal_is n)),
)

-- ---- a number at the front of words

pub front_all : (word : Word) (words : List Word) (n : ℕ) → SpellsNumber word n → front_number (word ∷ words) ≡ Some (n, words)
unfolding front_number
front_all word words n s = ap (λ o. o >>= λ m. Some (m, words)) (number_all word n s)

pub front_only : (words : List Word) (p : ℕ × List Word) → front_number words ≡ Some p → (w : Word) × (words ≡ w ∷ p.1) × SpellsNumber w p.0
unfolding front_number
front_only [] p e = absurd (cc)
front_only (w ∷ ws) p e =
    let (n, en, e1) = bind_some (number_of w) (λ m. Some (m, ws)) p e in
    let same : (n, ws) ≡ p = cc in
    (w, ap (λ q. w ∷ q.1) same, subst (λ q. SpellsNumber w q.0) same (number_only w n en))

pub byte_all : (word : Word) (words : List Word) (b : ℕ) → SpellsNumber word b → b ≤ 255 → front_byte (word ∷ words) ≡ Some (b, words)
unfolding front_byte
byte_all word words b s h =
    let small : ltb 255 b ≡ false = grind (arith, nat_tests) in
    ap (λ o. o >>= λ p. cond (ltb 255 p.0) None (Some p)) (front_all word words b s) ∙ ap (λ t. cond t None (Some (b, words))) small

pub byte_only : (words : List Word) (p : ℕ × List Word) → front_byte words ≡ Some p → (w : Word) × (words ≡ w ∷ p.1) × SpellsNumber w p.0 × (p.0 ≤ 255)
unfolding front_byte
byte_only words p e =
    let (q, en, t) = bind_some (front_number words) (λ q. cond (ltb 255 q.0) None (Some q)) p e in
    elim (chosen (ltb 255 q.0) None (Some q) (Some p) t) [
      | inl h ↦ let bad = h.1 in absurd (cc)
      | inr h ↦
          let same : q ≡ p = (let g = h.1 in cc) in
          let (w, is, s) = front_only words p (en ∙ ap Some same) in
          (w, is, s, subst (λ r. r.0 ≤ 255) same (grind (arith, nat_tests, h.0)))
    ]
