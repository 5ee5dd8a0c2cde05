-- The whole text of a call that strace tells in two lines, and the line at which it acts.
use Rattle.std.specs.Prelude.{ℕ, zero, suc, ◌+◌, Bool, true, false, List, [], ◌∷◌, ◌++◌, Option, None, Some, if◌then◌else◌, ◌==◌, codes, drop, slice_index_or}
use Rattle.std.specs.Str.{bytes_eq}
use Rattle.import_forms.specs.Tokens.{Token, front_token}
use Rattle.import_forms.specs.Speech.{Spoken, begun_of, returned_of}

-- what line k of the log says, counted from 0
abbrev pub speech_at : List Spoken → ℕ → Spoken
speech_at all k = slice_index_or all k (0, [])

-- what is said of the thread last in the first n lines, nothing where nothing is
abbrev pub last_of : ℕ → List Spoken → ℕ → List ℕ
last_of thread all zero = []
last_of thread all (suc n) = if (speech_at all n).0 == thread then (speech_at all n).1 else last_of thread all n

-- what is said of the thread first, nothing where nothing is
abbrev pub next_of : ℕ → List Spoken → List ℕ
next_of thread [] = []
next_of thread (s ∷ later) = if s.0 == thread then s.1 else next_of thread later

-- a text that begins with this token
abbrev pub has_name : Token → Option (Token × List ℕ) → Bool
has_name name None = false
has_name name (Some first) = bytes_eq first.0 name

-- the call has this name
abbrev pub is_named : Token → List ℕ → Bool
is_named name text = has_name name (front_token text)

-- two parts of a call, a space between them
abbrev pub joined : List ℕ → List ℕ → List ℕ
joined front rest = front ++ codes " " ++ rest

-- how a call of this name began; its name where the line isn't there
abbrev pub front_for : Token → Option (List ℕ) → List ℕ
front_for name None = name
front_for name (Some front) = if is_named name front then front else name

-- a munmap, where its thread goes on by its return
abbrev pub with_return : List ℕ → Option (Token × List ℕ) → Option (List ℕ)
with_return front None = None
with_return front (Some r) = if bytes_eq r.0 (codes "munmap") then Some (joined front r.1) else None

-- of a call that begins so, and its thread's next text: a munmap acts as it begins, and no other call does
abbrev pub call_begun : List ℕ → List ℕ → Option (List ℕ)
call_begun front later = if is_named (codes "munmap") front then with_return front (returned_of later) else None

-- of a call that returns so, and its thread's last text: each but a munmap acts as it returns
abbrev pub call_returned : Token × List ℕ → List ℕ → Option (List ℕ)
call_returned r earlier = if bytes_eq r.0 (codes "munmap") then None else Some (joined (front_for r.0 (begun_of earlier)) r.1)

-- the whole text of a call: of one line, or of the two lines in which it was begun and resumed
abbrev pub call_of : List ℕ → List ℕ → List ℕ → Option (List ℕ) → Option (Token × List ℕ) → Option (List ℕ)
call_of text later earlier (Some front) r = call_begun front later
call_of text later earlier None (Some r) = call_returned r earlier
call_of text later earlier None None = Some text

-- the whole text of the call that acts at line k, if one does
abbrev pub call_at : List Spoken → ℕ → Option (List ℕ)
call_at all k =
    let s = speech_at all k in
    call_of s.1 (next_of s.0 (drop (k + 1) all)) (last_of s.0 all k) (begun_of s.1) (returned_of s.1)

-- a call that began so returns by its thread's next text
abbrev pub returns_by : List ℕ → Option (Token × List ℕ) → Bool
returns_by front None = false
returns_by front (Some r) = is_named r.0 front

-- a text where there is one
abbrev pub acting_text : Bool → List ℕ → Option (List ℕ)
acting_text true text = Some text
acting_text false text = None
