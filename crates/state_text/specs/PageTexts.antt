-- The text of the pages that were used, and of mappings
use Rattle.std.specs.Prelude.{ℕ, ◌==◌, List, [], ◌∷◌, ◌++◌, Option, None, Some, cond, codes, decimal}
use Rattle.std.specs.List.{concat, flat_map}
use Rattle.vm_base.specs.Cores.{members}
use Rattle.frames.specs.Bits.{count_below}
use Rattle.trace_io.specs.Lines.{lines_of}
use Rattle.trace_text.specs.Lists.{start_of}
use Rattle.state_seen.specs.declared.list.OfPage.{OfPage}
use Rattle.state_seen.specs.PageTexts.{texts_below}
use Rattle.state_seen.specs.declared.used.Used.{Used}
use Rattle.state_text.specs.declared.form.Form.{Form}
use Rattle.state_text.specs.declared.form.Form.TheVariants.{Json, Text}
use Rattle.state_text.specs.Forms.{end_word}

-- its number, if the page has a frame
abbrev pub frame_text : Form → Option ℕ → List ℕ
frame_text form None = []
frame_text Text (Some f) = codes " frame " ++ decimal f
frame_text Json (Some f) = codes ",\"frame\":" ++ decimal f

-- what stands before a core where so many are before it: in JSON none before the first
abbrev pub comma : Form → ℕ → List ℕ
comma Text n = codes " "
comma Json n = cond (n == 0) [] (codes ",")

abbrev pub member_text : Form → ℕ → ℕ → List ℕ
member_text form set c = cond (members set c) (comma form (count_below (members set) c) ++ decimal c) []

-- the lowest core first
abbrev pub members_text : Form → ℕ → List ℕ
members_text form set = texts_below (member_text form set) 64

abbrev pub cores_text : Form → ℕ → List ℕ
cores_text Text set = cond (set == 0) [] (codes " cores" ++ members_text Text set)
cores_text Json set = cond (set == 0) [] (codes ",\"cores\":[" ++ members_text Json set ++ codes "]")

unfoldable pub page_front : Form → ℕ → List ℕ
page_front Text p = concat (codes "page " ∷ start_of p ∷ [])
page_front Json p = concat (codes "{\"page\":\"" ∷ start_of p ∷ codes "\"" ∷ [])

abbrev pub used_line : Form → ℕ → Used → List ℕ
used_line form p u = page_front form p ++ frame_text form u.frame ++ cores_text form u.cores ++ end_word form

abbrev pub entry_line : Form → OfPage Used → List ℕ
entry_line form e = used_line form e.page e.value

-- a mapping as an object, with the line that `maps` writes
abbrev pub mapping_json : List ℕ → List ℕ
mapping_json line = codes "{\"mapping\":\"" ++ line ++ codes "\"}\n"

-- one for each line
abbrev pub mappings_text : Form → List ℕ → List ℕ
mappings_text Text maps = maps
mappings_text Json maps = flat_map mapping_json (lines_of maps)
