-- What the first word of a line of a litmus test says that it is.
use Rattle.std.specs.Prelude.{ℕ, Bool, true, false, List, [], ◌∷◌, if◌then◌else◌, codes}
use Rattle.std.specs.List.{list_any}
use Rattle.std.specs.Str.{bytes_eq}
use Rattle.trace_text.specs.Words.{Word, words_of}
use Rattle.litmus_text.specs.declared.kinds.LineKind.{LineKind}
use Rattle.litmus_text.specs.declared.kinds.LineKind.TheVariants.{Space, File, Together, Final, Clause, Event}
use Rattle.litmus_text.specs.declared.kinds.Quantifier.TheVariants.{Exists, Never, Forall}

-- by its first word
abbrev pub kind_named : Word → LineKind
kind_named name = if bytes_eq name (codes "vm") then Space
    else if bytes_eq name (codes "file") then File
    else if bytes_eq name (codes "together") then Together
    else if bytes_eq name (codes "final") then Final
    else if bytes_eq name (codes "exists") then Clause Exists
    else if bytes_eq name (codes "never") then Clause Never
    else if bytes_eq name (codes "forall") then Clause Forall else Event

abbrev pub kind_of : List Word → LineKind
kind_of [] = Event
kind_of (name ∷ args) = kind_named name

-- the words behind the first
abbrev pub args_of : List Word → List Word
args_of [] = []
args_of (name ∷ args) = args

abbrev pub has_none : List Word → Bool
has_none [] = true
has_none (w ∷ ws) = false

-- the word `maps`, and no other
abbrev pub is_maps : List Word → Bool
is_maps [] = false
is_maps (name ∷ args) = if bytes_eq name (codes "maps") then has_none args else false

-- the line `together`
abbrev pub is_together : List Word → Bool
is_together [] = false
is_together (name ∷ args) = if bytes_eq name (codes "together") then has_none args else false

-- one of the lines is this one
abbrev pub has_together : List (List ℕ) → Bool
has_together lines = list_any (λ line. is_together (words_of line)) lines
