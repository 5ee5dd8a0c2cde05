-- A list of mappings with the names of the files that back them.
use Rattle.std.specs.Prelude.{ℕ, List, [], ◌++◌, Option, None, Some, if◌then◌else◌, ◌==◌, codes, length}
use Rattle.std.specs.List.{flat_map}
use Rattle.trace_io.specs.Lines.{lines_of}
use Rattle.trace_text.specs.Request.{◌>>=◌, front_number}
use Rattle.trace_text.specs.Words.{Word, front_word, words_of}
use Rattle.draw_steps.specs.Names.{name_of}

-- the file that backs the pages of a line: the fourth of its words, where it has one
unfoldable pub file_in : List Word → Option ℕ
file_in words = do
  range ← front_word words
  rights ← front_word range.1
  kind ← front_word rights.1
  file ← front_number kind.1
  Some file.0

-- a name behind a space, where there is one
abbrev pub name_words : List ℕ → List ℕ
name_words name = if length name == 0 then [] else codes " " ++ name

abbrev pub name_behind : List ℕ → Option ℕ → List ℕ
name_behind trace None = []
name_behind trace (Some file) = name_words (name_of trace file)

-- a line of a list of mappings with the name of its file, as a trace tells it
abbrev pub named_line : List ℕ → List ℕ → List ℕ
named_line trace line = line ++ name_behind trace (file_in (words_of line)) ++ codes "\n"

abbrev pub named_list : List ℕ → List ℕ → List ℕ
named_list trace list = flat_map (named_line trace) (lines_of list)
