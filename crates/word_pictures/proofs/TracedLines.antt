-- The lines of the text that notes tell
use Rattle.std.proofs.Common.{◌≡◌, ℕ, zero, suc, ◌<◌, ◌==◌, Bool, true, false, List, [], ◌∷◌, ◌++◌, Option, None, Some, IfSome, ◌||◌, length, take, drop, arith}
use Rattle.std.proofs.Common.{refl, sym, ap, ◌∙◌, if◌then◌else◌, eqb, codes, append_assoc, map, option_map}
use Rattle.std.specs.Char.{is_ascii_digit}
use Rattle.std.specs.List.{flat_map, list_any, starts_with}
use Rattle.std.specs.Option.{is_some, unwrap_or}
use Rattle.trace_io.specs.Lines.{lines_of, onto}
use Rattle.word_pictures.specs.Notes.{before_outcome, behind_digits, behind_ticket, ended_line, is_note, traced_line, traced_text}

-- ---- the search for an outcome

one_more : (xs : List ℕ) (n : ℕ) → n < length xs → starts_with eqb (drop n xs) (codes " = ") ≡ false
    → take (suc n) xs ++ before_outcome (drop (suc n) xs) ≡ take n xs ++ before_outcome (drop n xs)
one_more [] n lt h = absurd (omega (arith, lt))
one_more (x ∷ xs) zero lt h = ap (λ b. if b then [] else x ∷ before_outcome xs) (sym h)
one_more (x ∷ xs) (suc n) lt h = ap (λ l. x ∷ l) (one_more xs n (omega (arith, lt)) h)

-- no outcome begins here
pub passed : (xs all : List ℕ) (n m : ℕ) → m ≡ suc n → n < length xs → starts_with eqb (drop n xs) (codes " = ") ≡ false
    → take n xs ++ before_outcome (drop n xs) ≡ all → take m xs ++ before_outcome (drop m xs) ≡ all
passed xs all n m is lt h same = rw is (one_more xs n lt h ∙ same)

-- ---- lines have no newline

abbrev HasNone : List ℕ → Type 0
HasNone [] = Unit {0}
HasNone (x ∷ xs) = ((x == 10) ≡ false) × HasNone xs

abbrev AreLines : List (List ℕ) → Type 0
AreLines [] = Unit {0}
AreLines (l ∷ ls) = HasNone l × AreLines ls

onto_lines : (x : ℕ) (ls : List (List ℕ)) → (x == 10) ≡ false → AreLines ls → AreLines (onto x ls)
onto_lines x [] letter h = ((letter, tt), tt)
onto_lines x (l ∷ ls) letter h = ((letter, h.0), h.1)

are_lines : (xs : List ℕ) → AreLines (lines_of xs)
are_lines [] = tt
are_lines (x ∷ xs) = go (are_lines xs) (x == 10) refl
  where
    go : AreLines (lines_of xs) → (b : Bool) → (x == 10) ≡ b → AreLines (if b then [] ∷ lines_of xs else onto x (lines_of xs))
    go h true is = (tt, h)
    go h false is = onto_lines x (lines_of xs) is h

digits_line : (xs : List ℕ) → HasNone xs → IfSome (behind_digits xs) HasNone
digits_line [] h = tt
digits_line (x ∷ xs) h = go (digits_line xs h.1) (x == 32) (is_ascii_digit x)
  where
    go : IfSome (behind_digits xs) HasNone → (a b : Bool) → IfSome (if a then Some xs else if b then behind_digits xs else None) HasNone
    go rest true b = h.1
    go rest false true = rest
    go rest false false = tt

ticket_line : (xs : List ℕ) → HasNone xs → IfSome (behind_ticket xs) HasNone
ticket_line [] h = tt
ticket_line (x ∷ xs) h = go (digits_line xs h.1) (is_ascii_digit x)
  where
    go : IfSome (behind_digits xs) HasNone → (b : Bool) → IfSome (if b then behind_digits xs else None) HasNone
    go rest true = rest
    go rest false = tt

event_line : (xs : List ℕ) → HasNone xs → HasNone (before_outcome xs)
event_line [] h = tt
event_line (x ∷ xs) h = go (event_line xs h.1) (starts_with eqb (x ∷ xs) (codes " = "))
  where
    go : HasNone (before_outcome xs) → (b : Bool) → HasNone (if b then [] else x ∷ before_outcome xs)
    go rest true = tt
    go rest false = (h.0, rest)

said_line : (line : List ℕ) (rest : Option (List ℕ)) → HasNone line → IfSome rest HasNone → HasNone (unwrap_or (option_map before_outcome rest) line)
said_line line None h k = h
said_line line (Some rest) h k = event_line rest k

one_line : (line : List ℕ) → HasNone line → HasNone (traced_line line)
one_line line h = said_line line (behind_ticket line) h (ticket_line line h)

-- ---- lines with their newlines are these lines

ended : (line xs : List ℕ) → HasNone line → lines_of (line ++ 10 ∷ xs) ≡ line ∷ lines_of xs
ended [] xs h = refl
ended (x ∷ line) xs h = ap (λ b. if b then [] ∷ lines_of (line ++ 10 ∷ xs) else onto x (lines_of (line ++ 10 ∷ xs))) h.0 ∙ ap (onto x) (ended line xs h.1)

all_ended : (ls : List (List ℕ)) → AreLines ls → lines_of (flat_map ended_line ls) ≡ map traced_line ls
all_ended [] h = refl
all_ended (l ∷ ls) h =
    ap lines_of (append_assoc (traced_line l) (codes "\n") (flat_map ended_line ls))
    ∙ (ended (traced_line l) (flat_map ended_line ls) (one_line l h.0) ∙ ap (λ more. traced_line l ∷ more) (all_ended ls h.1))

pub traced_lines : (text : List ℕ) → lines_of (flat_map ended_line (lines_of text)) ≡ map traced_line (lines_of text)
traced_lines text = all_ended (lines_of text) (are_lines text)

-- ---- a text without notes

no_event : (line : List ℕ) (rest : Option (List ℕ)) → is_some (option_map before_outcome rest) ≡ false → unwrap_or (option_map before_outcome rest) line ≡ line
no_event line None h = refl
no_event line (Some rest) h = absurd (cc)

pub same_lines : (ls : List (List ℕ)) → list_any is_note ls ≡ false → map traced_line ls ≡ ls
same_lines [] h = refl
same_lines (l ∷ ls) h = go (same_lines ls) (is_note l) refl h
  where
    go : (list_any is_note ls ≡ false → map traced_line ls ≡ ls) → (b : Bool) → is_note l ≡ b → (b || list_any is_note ls) ≡ false
        → map traced_line (l ∷ ls) ≡ l ∷ ls
    go rest true is none = absurd (cc)
    go rest false is none = ap (λ a. a ∷ map traced_line ls) (no_event l (behind_ticket l) is) ∙ ap (λ b. l ∷ b) (rest none)

-- the lines of what notes tell
pub lines_traced : (text : List ℕ) → lines_of (traced_text text) ≡ map traced_line (lines_of text)
lines_traced text = go (list_any is_note (lines_of text)) refl
  where
    go : (b : Bool) → list_any is_note (lines_of text) ≡ b
        → lines_of (if b then flat_map ended_line (lines_of text) else text) ≡ map traced_line (lines_of text)
    go true is = traced_lines text
    go false is = sym (same_lines (lines_of text) is)
