-- A log of strace as it is read, line by line.
use Rattle.std.specs.Prelude.{◌≡◌, ℕ, Bool, true, false, List, [], ◌∷◌, ◌++◌, Option, None, Some, if◌then◌else◌, take}
use Rattle.import_forms.specs.Speech.{Spoken, broken_of, speech_of}
use Rattle.import_forms.specs.Said.{said_of}
use Rattle.import_forms.specs.declared.said.Said.{Said}
use Rattle.import_forms.specs.declared.said.Said.TheVariants as Says
use Rattle.import_lines.specs.declared.log_lines.StraceLog.{StraceLog}

-- what a line says that isn't read
abbrev pub is_unread : Said → Bool
is_unread (Says.Asks request) = false
is_unread (Says.Breaks to) = false
is_unread (Says.Moves from old to new stays) = false
is_unread (Says.Makes thread shares joins) = false
is_unread Says.Begins = false
is_unread (Says.Keyed request) = false
is_unread (Says.Sizes number len) = false
is_unread (Says.Attaches number addr prot) = false
is_unread (Says.Detaches addr) = false
is_unread (Says.Clears addr len) = false
is_unread (Says.Loses lost) = false
is_unread Says.Ends = false
is_unread Says.Fails = false
is_unread Says.Unread = true
is_unread Says.Other = true

-- ---- lines that a message of strace's breaks

abbrev pub spoken_or : List ℕ → Option (List ℕ × ℕ) → Spoken
spoken_or text None = speech_of text
spoken_or text (Some message) = (message.1, [])

-- what a line says; one with a message about a thread says nothing of it yet
abbrev pub spoken_whole : List ℕ → Spoken
spoken_whole text = spoken_or text (broken_of text)

abbrev pub front_of : Option (List ℕ × ℕ) → List ℕ
front_of None = []
front_of (Some message) = message.0

-- what stands before the message in a line that ends with one
abbrev pub front_left : List ℕ → List ℕ
front_left text = front_of (broken_of text)

-- what lines say: one that a message breaks goes on in the next, of which this is the front
abbrev pub spoken_from : List ℕ → List (List ℕ) → List Spoken
spoken_from front [] = []
spoken_from front (l ∷ ls) = spoken_whole (front ++ l) ∷ spoken_from (front_left (front ++ l)) ls

-- what the next line goes on from
abbrev pub front_after : List ℕ → List (List ℕ) → List ℕ
front_after front [] = front
front_after front (l ∷ ls) = front_after (front_left (front ++ l)) ls

-- the first line that isn't read, nothing where all are
abbrev pub unread_from : List ℕ → List (List ℕ) → List ℕ
unread_from front [] = []
unread_from front (l ∷ ls) = if is_unread (said_of (spoken_whole (front ++ l)).1) then l else unread_from (front_left (front ++ l)) ls

abbrev pub first_unread : List (List ℕ) → List ℕ
first_unread all = unread_from [] all

-- What these lines say is kept, and the first 80 bytes of the first that isn't read, where one is found. The next line goes on from this
-- front.
pub record IsReadBy (all : List (List ℕ)) (told : List Spoken) (is_found : Bool) (shown front : List ℕ) : Type 0 where
  pub said : told ≡ spoken_from [] all
  pub front_is : front ≡ front_after [] all
  pub none : is_found ≡ false → shown ≡ []
  pub later : is_found ≡ false → (more : List (List ℕ)) → first_unread (all ++ more) ≡ unread_from front more
  pub found : is_found ≡ true → (more : List (List ℕ)) → shown ≡ take 80 (first_unread (all ++ more))

-- the log has read these lines
abbrev pub IsRead : List (List ℕ) → StraceLog → Type 0
IsRead all log = IsReadBy all log.lines log.found log.unread.items log.broken.items
