-- A line that says something in a trace is no note
use Rattle.std.proofs.Common.{◌≡◌, ℕ, zero, suc, ◌==◌, ◌-◌, Bool, true, false, List, [], ◌∷◌, None, take, length, arith, refl, ap, ◌∙◌}
use Rattle.std.proofs.Common.{if◌then◌else◌, option_map}
use Rattle.std.proofs.lemmas.Bool.Decides.{nat_tests}
use Rattle.std.specs.Char.{is_ascii_digit}
use Rattle.std.specs.Option.{is_some}
use Rattle.std.specs.Io.BufRead.{ends_with_byte, strip_last}
use Rattle.trace_io.specs.Lines.{onto}
use Rattle.trace_text.specs.Line.{core_of, event_of, line_of, line_of_words, now_of, task_of}
use Rattle.trace_text.specs.Request.{◌>>=◌}
use Rattle.trace_text.specs.Words.{Word, begins_word, words_of}
use Rattle.word_pictures.specs.Notes.{before_outcome, behind_digits, is_note}

-- the first word begins with this byte
first_word : (x : ℕ) (xs : List ℕ) → (x == 32) ≡ false → (w : List ℕ) × (ws : List Word) × (words_of (x ∷ xs) ≡ (x ∷ w) ∷ ws)
first_word x xs letter = rw letter (go (begins_word xs) (words_of xs))
  where
    go : (b : Bool) (found : List Word) → (w : List ℕ) × (ws : List Word) × ((if b then onto x found else (x ∷ []) ∷ found) ≡ (x ∷ w) ∷ ws)
    go true [] = ([], [], refl)
    go true (l ∷ ls) = (l, ls, refl)
    go false found = ([], found, refl)

-- which names no core
no_core : (x n : ℕ) (w : List ℕ) → (x == 99) ≡ false → core_of (take n (x ∷ w)) ≡ None
no_core x zero w other = refl
no_core x (suc n) w other = rw other refl

no_core_either : (x : ℕ) (w : List ℕ) (b : Bool) → (x == 99) ≡ false → core_of (if b then take (length (x ∷ w) - 1) (x ∷ w) else x ∷ w) ≡ None
no_core_either x w true other = no_core x (length (x ∷ w) - 1) w other
no_core_either x w false other = rw other refl

no_event_either : (name : Word) (args : List Word) (b : Bool) → core_of name ≡ None → core_of (strip_last 33 name) ≡ None
    → (if b then now_of (strip_last 33 name) args else (core_of name >>= λ core. task_of core args)) ≡ None
unfolding now_of
no_event_either name args true plain now = rw now refl
no_event_either name args false plain now = rw plain refl

no_event : (name : Word) (args : List Word) → core_of name ≡ None → core_of (strip_last 33 name) ≡ None → event_of name args ≡ None
unfolding event_of
no_event name args plain now = no_event_either name args (ends_with_byte 33 name) plain now

no_words : (x : ℕ) (w : List ℕ) (ws : List Word) → (x == 118) ≡ false → (x == 102) ≡ false → (x == 99) ≡ false → line_of_words ((x ∷ w) ∷ ws) ≡ None
unfolding line_of_words
no_words x w ws vm file core =
    rw (vm, file) (no_event (x ∷ w) ws (rw core refl) (no_core_either x w (ends_with_byte 33 (x ∷ w)) core))

no_line : (x : ℕ) (xs : List ℕ) → is_ascii_digit x ≡ true → line_of (x ∷ xs) ≡ None
no_line x xs digit =
    let comment : (x == 35) ≡ false = grind (arith, nat_tests, digit) in
    let space : (x == 32) ≡ false = grind (arith, nat_tests, digit) in
    let vm : (x == 118) ≡ false = grind (arith, nat_tests, digit) in
    let file : (x == 102) ≡ false = grind (arith, nat_tests, digit) in
    let core : (x == 99) ≡ false = grind (arith, nat_tests, digit) in
    let first = first_word x xs space in
    rw comment (ap line_of_words first.2 ∙ no_words x first.0 first.1 vm file core)

pub no_note : (line : List ℕ) → is_note line ≡ true → line_of line ≡ None
no_note [] h = absurd (cc)
no_note (x ∷ xs) h = go (is_ascii_digit x) refl h
  where
    go : (b : Bool) → is_ascii_digit x ≡ b → is_some (option_map before_outcome (if b then behind_digits xs else None)) ≡ true → line_of (x ∷ xs) ≡ None
    go true digit some = no_line x xs digit
    go false digit some = absurd (cc)
