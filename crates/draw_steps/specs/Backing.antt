-- What backs pages, in the words of a list of mappings.
use Rattle.std.specs.Prelude.{ℕ, ◌||◌, List, [], ◌∷◌, ◌++◌, Option, None, Some, if◌then◌else◌, ◌==◌, codes, length, nat_lt}
use Rattle.std.specs.List.{flat_map}
use Rattle.vm_base.specs.declared.info.Back.{Back}
use Rattle.vm_base.specs.declared.info.Back.TheVariants.{Anon, Shared, Private}
use Rattle.draw_steps.specs.Names.{name_of}
use Rattle.trace_text.specs.Lists.{back_text}

-- a byte as SVG has it in a text: some by their names, and what isn't visible ASCII as a question mark
abbrev pub shown : ℕ → List ℕ
shown x = if x == 38 then codes "&amp;" else if x == 60 then codes "&lt;" else if x == 62 then codes "&gt;"
    else if nat_lt x 32 || nat_lt 126 x then codes "?" else x ∷ []

-- a name behind a space, where there is one
abbrev pub name_words : List ℕ → List ℕ
name_words name = if length name == 0 then [] else codes " " ++ flat_map shown name

-- the name of a file that backs pages
abbrev pub name_behind : List ℕ → Back → List ℕ
name_behind text Anon = []
name_behind text (Shared file page) = name_words (name_of text file)
name_behind text (Private file page) = name_words (name_of text file)

-- what backs pages, if that is known, behind a space: as `maps` shows it, and the name of a file that the trace names
abbrev pub backing_words : List ℕ → Option Back → List ℕ
backing_words text None = []
backing_words text (Some back) = codes " " ++ back_text back ++ name_behind text back
