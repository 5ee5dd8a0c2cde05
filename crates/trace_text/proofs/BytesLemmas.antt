-- Texts of which each byte has a property.
use Rattle.std.proofs.Common.{◌≡◌, inl, inr, ℕ, zero, suc, ◌^◌, ◌<◌, ◌≤◌, Bool, true, false, cond, not, eqb, List, [], ◌∷◌, ◌++◌, Some}
use Rattle.std.proofs.Common.{codes, decimal, slice_get, arith, refl, sym, ap, ◌∙◌}
use Rattle.std.proofs.lemmas.Bool.{and_from, and_parts, eqb-true}
use Rattle.std.proofs.lemmas.List.Folds.{list_all-append}
use Rattle.std.specs.Prelude.{nat_le, ◌&&◌}
use Rattle.std.specs.List.{AllZip, list_all}
use Rattle.vm_base.specs.declared.replies.Errno.TheVariants.{EINVAL}
use Rattle.vm_base.specs.declared.replies.SegvCode.TheVariants.{MapErr}
use Rattle.vm_base.specs.declared.replies.Reply.{Reply}
use Rattle.vm_base.specs.declared.replies.Reply.TheVariants.{Mapped, Byte, Refused, Segv}
use Rattle.trace_io.specs.Lines.{onto}
use Rattle.trace_text.specs.Words.{Word, words_of, begins_word}
use Rattle.trace_text.specs.Line.{are_printable}
use Rattle.trace_text.specs.Halves.{are_clear}
use Rattle.trace_text.specs.Printing.{address_of, hexadecimal, text_of}
use Rattle.trace_text.specs.Spelling.{IsDigit, SpellsNumber}
use Rattle.trace_text.proofs.SpellingLemmas.{decimal_is, hexadecimal_is}

pub append_has : (p : ℕ → Bool) (xs ys : List ℕ) → list_all p xs ≡ true → list_all p ys ≡ true → list_all p (xs ++ ys) ≡ true
append_has p xs ys h k = list_all-append p xs ys ∙ and_from (list_all p xs) (list_all p ys) h k

-- and what follows from it
weaker_has : (p q : ℕ → Bool) → ((c : ℕ) → p c ≡ true → q c ≡ true) → (xs : List ℕ) → list_all p xs ≡ true → list_all q xs ≡ true
weaker_has p q f [] h = refl
weaker_has p q f (x ∷ xs) h =
    let parts = and_parts (p x) (list_all p xs) h in
    and_from (q x) (list_all q xs) (f x parts.0) (weaker_has p q f xs parts.1)

-- ---- words

onto_has : (p : ℕ → Bool) (x : ℕ) (words : List Word) → list_all (list_all p) (onto x words) ≡ true
    → (p x ≡ true) × (list_all (list_all p) words ≡ true)
onto_has p x [] e = ((and_parts (p x) true (and_parts (p x && true) true e).0).0, refl)
onto_has p x (w ∷ ws) e =
    let parts = and_parts (p x && list_all p w) (list_all (list_all p) ws) e in
    let front = and_parts (p x) (list_all p w) parts.0 in
    (front.0, and_from (list_all p w) (list_all (list_all p) ws) front.1 parts.1)

-- the bytes of words, and the spaces between them
pub words_have : (p : ℕ → Bool) → p 32 ≡ true → (bytes : List ℕ) → list_all (list_all p) (words_of bytes) ≡ true → list_all p bytes ≡ true
words_have p space [] e = refl
words_have p space (x ∷ xs) e = go (λ f. words_have p space xs f) (eqb x 32) (begins_word xs) refl e
  where
    go : (list_all (list_all p) (words_of xs) ≡ true → list_all p xs ≡ true) → (is_space more : Bool) → eqb x 32 ≡ is_space
        → list_all (list_all p) (cond is_space (words_of xs) (cond more (onto x (words_of xs)) ((x ∷ []) ∷ words_of xs))) ≡ true
        → p x && list_all p xs ≡ true
    go others true more is e = and_from (p x) (list_all p xs) (ap p (eqb-true x 32 is) ∙ space) (others e)
    go others false true is e =
        let parts = onto_has p x (words_of xs) e in
        and_from (p x) (list_all p xs) parts.0 (others parts.1)
    go others false false is e =
        let parts = and_parts (p x && true) (list_all (list_all p) (words_of xs)) e in
        and_from (p x) (list_all p xs) (and_parts (p x) true parts.0).0 (others parts.1)

-- ---- numbers

-- each digit, in either case, and the letter of 0x
abbrev pub HasDigits : (ℕ → Bool) → Type 0
HasDigits p = (list_all p (codes "0123456789abcdef") ≡ true) × (list_all p (codes "0123456789ABCDEF") ≡ true) × (p 120 ≡ true)

place_has : (p : ℕ → Bool) (xs : List ℕ) (k c : ℕ) → list_all p xs ≡ true → slice_get xs k ≡ Some c → p c ≡ true
place_has p [] k c h e = absurd (cc)
place_has p (x ∷ xs) zero c h e = let same : x ≡ c = cc in ap p (sym same) ∙ (and_parts (p x) (list_all p xs) h).0
place_has p (x ∷ xs) (suc k) c h e = place_has p xs k c (and_parts (p x) (list_all p xs) h).1 e

digit_has : (p : ℕ → Bool) → HasDigits p → (base c d : ℕ) → IsDigit base c d → p c ≡ true
digit_has p h base c d (low, inl e) = place_has p (codes "0123456789abcdef") d c h.0 e
digit_has p h base c d (low, inr e) = place_has p (codes "0123456789ABCDEF") d c h.1 e

pub digits_have : (p : ℕ → Bool) → HasDigits p → (base : ℕ) (w ds : List ℕ) → AllZip (IsDigit base) w ds → list_all p w ≡ true
digits_have p h base [] ds z = refl
digits_have p h base (c ∷ cs) [] z = absurd z
digits_have p h base (c ∷ cs) (d ∷ ds) z = and_from (p c) (list_all p cs) (digit_has p h base c d z.0) (digits_have p h base cs ds z.1)

pub number_has : (p : ℕ → Bool) → HasDigits p → (w : Word) (n : ℕ) → SpellsNumber w n → list_all p w ≡ true
number_has p h w n (low, inl s) = digits_have p h 10 w s.digits s.each
number_has p h w n (low, inr (digits, e, s)) =
    let zero_has : p 48 ≡ true = place_has p (codes "0123456789abcdef") 0 48 h.0 refl in
    let digits_do : list_all p digits ≡ true = digits_have p h 16 digits s.digits s.each in
    ap (list_all p) e ∙ and_from (p 48) (p 120 && list_all p digits) zero_has (and_from (p 120) (list_all p digits) h.2 digits_do)

-- what is printed of a number spells it
pub decimal_number : (n : ℕ) → n < 2 ^ 64 → SpellsNumber (decimal n) n
decimal_number n low = (low, inl (decimal_is n low))

pub address_number : (n : ℕ) → n < 2 ^ 64 → SpellsNumber (address_of n) n
address_number n low = (low, inr (hexadecimal n, refl, hexadecimal_is n))

pub decimal_has : (p : ℕ → Bool) → HasDigits p → (n : ℕ) → n < 2 ^ 64 → list_all p (decimal n) ≡ true
decimal_has p h n low = number_has p h (decimal n) n (decimal_number n low)

address_has : (p : ℕ → Bool) → HasDigits p → (n : ℕ) → n < 2 ^ 64 → list_all p (address_of n) ≡ true
address_has p h n low = number_has p h (address_of n) n (address_number n low)

-- ---- replies

-- printable, and no sign
abbrev pub fits : ℕ → Bool
fits c = (nat_le 32 c && nat_le c 126) && not (eqb c 61)

-- of a reply whose address has 64 bits, and its byte 8
pub reply_fits : (r : Reply) → ((a : ℕ) → r ≡ Mapped a → a < 2 ^ 64) → ((b : ℕ) → r ≡ Byte b → b ≤ 255) → list_all fits (text_of r) ≡ true
reply_fits (Mapped a) address byte = address_has fits (refl, refl, refl) a (address a refl)
reply_fits (Byte b) address byte = let low = byte b refl in decimal_has fits (refl, refl, refl) b (omega (arith, low))
reply_fits (Refused EINVAL) address byte = refl
reply_fits (Segv MapErr) address byte = refl
reply_fits r address byte = refl

pub fits_printable : (xs : List ℕ) → list_all fits xs ≡ true → are_printable xs ≡ true
fits_printable xs h = weaker_has fits (λ c. nat_le 32 c && nat_le c 126) (λ c e. (and_parts (nat_le 32 c && nat_le c 126) (not (eqb c 61)) e).0) xs h

pub fits_clear : (xs : List ℕ) → list_all fits xs ≡ true → are_clear xs ≡ true
fits_clear xs h = weaker_has fits (λ c. not (eqb c 61)) (λ c e. (and_parts (nat_le 32 c && nat_le c 126) (not (eqb c 61)) e).1) xs h
