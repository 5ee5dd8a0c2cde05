-- What is written says what it was written of.
use Rattle.machine_model.proofs.Words.{◌≡◌, inl, inr, ℕ, ◌+◌, ◌^◌, ◌<◌, Bool, true, false, List, [], ◌∷◌, ◌++◌, length, decimal, arith, refl, ap, ◌∙◌}
use Rattle.machine_model.proofs.Words.{append-nil, Prot, Flags, Request, Mmap, Munmap, Mprotect, Load, Store, Fetch}
use Rattle.std.specs.List.{list_all}
use Rattle.trace_text.specs.Words.{Word, words_of}
use Rattle.trace_text.specs.Printing.{address_of}
use Rattle.trace_text.specs.Spelling.{SpellsNumber, SpellsFlags, rights_text}
use Rattle.trace_text.specs.Grammar.{Asks}
use Rattle.trace_text.proofs.BytesLemmas.{address_number, decimal_number, number_has}
use Rattle.trace_text.proofs.Choices.{of_four, of_three}
use Rattle.trace_text.proofs.WordLemmas.{IsWord, one_word, unspaced, words_join}
use Rattle.trace_words.specs.Written.{spaced, flags_text, request_words}
use Rattle.seats.specs.Fitting.{FitsRequest}

-- ---- words without spaces

number_some : (w : Word) (n : ℕ) → SpellsNumber w n → 0 < length w
number_some w n (h, inl s) = s.some
number_some w n (h, inr (digits, e, s)) = let l = ap length e in omega (arith, l)

pub number_word : (w : Word) (n : ℕ) → SpellsNumber w n → IsWord w
number_word w n s = go w (number_some w n s) (number_has unspaced (refl, refl, refl) w n s)
  where
    go : (w : Word) → 0 < length w → list_all unspaced w ≡ true → IsWord w
    go [] h c = absurd (omega arith)
    go (x ∷ xs) h c = one_word x xs c

-- ---- words behind spaces

abbrev pub AreWords : List Word → Type 0
AreWords [] = Unit {0}
AreWords (w ∷ ws) = IsWord w × AreWords ws

pub word_before : (w : Word) (ws : List Word) → IsWord w → words_of (w ++ spaced ws) ≡ w ∷ words_of (spaced ws)
word_before w [] h = ap words_of (append-nil w) ∙ h
word_before w (v ∷ vs) h = words_join w (v ++ spaced vs) ∙ ap (λ l. l ++ words_of (v ++ spaced vs)) h

pub words_spaced : (ws : List Word) → AreWords ws → words_of (spaced ws) ≡ ws
words_spaced [] h = refl
words_spaced (w ∷ ws) h = word_before w ws h.0 ∙ ap (λ l. w ∷ l) (words_spaced ws h.1)

-- ---- rights and flags

rights_word : (prot : Prot) → IsWord (rights_text prot)
rights_word prot = of_three (λ r w x. IsWord (rights_text (record { read = r; write = w; exec = x })))
    (refl, refl, refl, refl, refl, refl, refl, refl) prot.read prot.write prot.exec

flags_word : (flags : Flags) → IsWord (flags_text flags)
flags_word flags = of_four (λ p s f a. IsWord (flags_text (record { private = p; shared = s; fixed = f; anon = a })))
    (refl, refl, refl, refl, refl, refl, refl, refl) (refl, refl, refl, refl, refl, refl, refl, refl) flags.private flags.shared flags.fixed flags.anon

flags_spelled : (flags : Flags) → SpellsFlags (flags_text flags) flags
flags_spelled flags = go flags.private flags.shared flags.fixed flags.anon
  where
    go : (p s f a : Bool) → SpellsFlags (flags_text (record { private = p; shared = s; fixed = f; anon = a }))
        (record { private = p; shared = s; fixed = f; anon = a })
    go true true true true = inl (record { private = refl; shared = refl; fixed = refl; anon = refl; others = refl })
    go true true true false = inl (record { private = refl; shared = refl; fixed = refl; anon = refl; others = refl })
    go true true false true = inl (record { private = refl; shared = refl; fixed = refl; anon = refl; others = refl })
    go true true false false = inl (record { private = refl; shared = refl; fixed = refl; anon = refl; others = refl })
    go true false true true = inl (record { private = refl; shared = refl; fixed = refl; anon = refl; others = refl })
    go true false true false = inl (record { private = refl; shared = refl; fixed = refl; anon = refl; others = refl })
    go true false false true = inl (record { private = refl; shared = refl; fixed = refl; anon = refl; others = refl })
    go true false false false = inl (record { private = refl; shared = refl; fixed = refl; anon = refl; others = refl })
    go false true true true = inl (record { private = refl; shared = refl; fixed = refl; anon = refl; others = refl })
    go false true true false = inl (record { private = refl; shared = refl; fixed = refl; anon = refl; others = refl })
    go false true false true = inl (record { private = refl; shared = refl; fixed = refl; anon = refl; others = refl })
    go false true false false = inl (record { private = refl; shared = refl; fixed = refl; anon = refl; others = refl })
    go false false true true = inl (record { private = refl; shared = refl; fixed = refl; anon = refl; others = refl })
    go false false true false = inl (record { private = refl; shared = refl; fixed = refl; anon = refl; others = refl })
    go false false false true = inl (record { private = refl; shared = refl; fixed = refl; anon = refl; others = refl })
    go false false false false = inr (refl, refl)

-- ---- requests

pub decimal_word : (n : ℕ) → n < 2 ^ 64 → IsWord (decimal n)
decimal_word n h = number_word (decimal n) n (decimal_number n h)

pub address_word : (n : ℕ) → n < 2 ^ 64 → IsWord (address_of n)
address_word n h = number_word (address_of n) n (address_number n h)

pub request_asked : (request : Request) → FitsRequest request → Asks request (request_words request)
request_asked (Mmap addr len prot flags file off) (a, l, f, o) = (
  address_of addr,
  address_of len,
  rights_text prot,
  flags_text flags,
  decimal file ∷ address_of off ∷ [],
  refl,
  address_number addr a,
  address_number len l,
  refl,
  flags_spelled flags,
  inr (decimal file, address_of off, refl, decimal_number file f, address_number off o),
)
request_asked (Munmap addr len) (a, l) = (address_of addr, address_of len, refl, address_number addr a, address_number len l)
request_asked (Mprotect addr len prot) (a, l) =
    (address_of addr, address_of len, rights_text prot, refl, address_number addr a, address_number len l, refl)
request_asked (Load addr) a = (address_of addr, refl, address_number addr a)
request_asked (Store addr byte) (a, b) =
    (address_of addr, decimal byte, refl, address_number addr a, decimal_number byte (omega (arith, b)), b)
request_asked (Fetch addr) a = (address_of addr, refl, address_number addr a)

pub request_are_words : (request : Request) → FitsRequest request → AreWords (request_words request)
request_are_words (Mmap addr len prot flags file off) (a, l, f, o) =
    (refl, (address_word addr a, (address_word len l, (rights_word prot, (flags_word flags, (decimal_word file f, (address_word off o, tt)))))))
request_are_words (Munmap addr len) (a, l) = (refl, (address_word addr a, (address_word len l, tt)))
request_are_words (Mprotect addr len prot) (a, l) = (refl, (address_word addr a, (address_word len l, (rights_word prot, tt))))
request_are_words (Load addr) a = (refl, (address_word addr a, tt))
request_are_words (Store addr byte) (a, b) = (refl, (address_word addr a, (decimal_word byte (omega (arith, b)), tt)))
request_are_words (Fetch addr) a = (refl, (address_word addr a, tt))
