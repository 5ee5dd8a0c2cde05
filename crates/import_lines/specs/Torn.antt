-- Calls whose two lines don't belong together, as strace writes them where it leaves calls out by how they ended.
use Rattle.std.specs.Prelude.{ℕ, zero, suc, ◌+◌, Bool, true, false, not, List, [], ◌∷◌, Option, None, Some, if◌then◌else◌, ◌==◌, drop}
use Rattle.import_forms.specs.Speech.{Spoken, begun_of, returned_of}
use Rattle.import_forms.specs.Tokens.{Token}
use Rattle.import_forms.specs.declared.said.Said.{Said}
use Rattle.import_forms.specs.declared.said.Said.TheVariants as Says
use Rattle.import_lines.specs.Joining.{is_named, returns_by, speech_at}
use Rattle.import_lines.specs.Lines.{Kept, kept_text}

-- what is said of the thread first, if anything is
abbrev pub next_text : ℕ → List Spoken → Option (List ℕ)
next_text thread [] = None
next_text thread (s ∷ later) = if s.0 == thread then Some s.1 else next_text thread later

-- what is said of the thread last in the first n lines, if anything is
abbrev pub last_text : ℕ → List Spoken → ℕ → Option (List ℕ)
last_text thread all zero = None
last_text thread all (suc n) = if (speech_at all n).0 == thread then Some (speech_at all n).1 else last_text thread all n

-- what is said at this place, if there is one
abbrev pub place_text : List Spoken → Option ℕ → Option (List ℕ)
place_text all None = None
place_text all (Some k) = Some (speech_at all k).1

abbrev pub ends_thread : Said → Bool
ends_thread Says.Ends = true
ends_thread said = false

-- a thread ends
abbrev pub ends_by : Kept → Bool
ends_by k = if k.half then false else ends_thread k.said

abbrev pub says_something : Said → Bool
says_something Says.Other = false
says_something said = true

-- a line is of a call that is looked at, of half of any, or of a thread's end
abbrev pub speaks : Kept → Bool
speaks k = if k.half then true else says_something k.said

-- a call that began so never returns, though its thread goes on: its next line is neither its return nor its end
abbrev pub torn_begun : List ℕ → Option (List ℕ) → Bool
torn_begun front None = false
torn_begun front (Some later) = if ends_by (kept_text later) then false else not (returns_by front (returned_of later))

abbrev pub begins_call : Token → Option (List ℕ) → Bool
begins_call name None = false
begins_call name (Some front) = is_named name front

-- a call of this name returns that never began, though its thread's last line is there
abbrev pub torn_returned : Token → Option (List ℕ) → Bool
torn_returned name None = false
torn_returned name (Some earlier) = not (begins_call name (begun_of earlier))

abbrev pub torn_by : Option (List ℕ) → Option (List ℕ) → Option (List ℕ) → Option (Token × List ℕ) → Bool
torn_by later earlier (Some front) r = torn_begun front later
torn_by later earlier None (Some r) = torn_returned r.0 earlier
torn_by later earlier None None = false

-- line k is half of a call, and the other half isn't where it should be
abbrev pub torn_at : List Spoken → ℕ → Bool
torn_at all k =
    let s = speech_at all k in
    torn_by (next_text s.0 (drop (k + 1) all)) (last_text s.0 all k) (begun_of s.1) (returned_of s.1)

-- one of the first n lines is
abbrev pub is_torn : List Spoken → ℕ → Bool
is_torn all zero = false
is_torn all (suc n) = if torn_at all n then true else is_torn all n
