-- A page's data as JSON
use Rattle.std.specs.Prelude.{ℕ, List, [], ◌∷◌, ◌++◌, codes, decimal, take, drop}
use Rattle.std.specs.List.{flat_map}
use Rattle.state_changes.specs.Applied.{Differs, fresh}
use Rattle.state_changes.specs.declared.part.DiffOp.{DiffOp}
use Rattle.state_changes.specs.declared.part.DiffOp.TheVariants.{Keep, Skip, Add}
use Rattle.trace_io.specs.Lines.{lines_of}
use Rattle.state_changes.specs.Json.{string_text}
use Rattle.state_changes.specs.Recorded.{MomentOf, Recorded}
use Rattle.state_changes.specs.Spans.{span_of}

-- a part of a change: how many bytes stay, below 0 how many go, or what is added
abbrev pub part_text : DiffOp → List ℕ → List ℕ
part_text (Keep n) added = codes "," ++ decimal n
part_text (Skip n) added = codes ",-" ++ decimal n
part_text (Add n) added = codes "," ++ string_text (take n added)

abbrev pub parts_text : List DiffOp → List ℕ → List ℕ
parts_text [] added = []
parts_text (p ∷ ps) added = part_text p added ++ parts_text ps (drop (fresh p) added)

-- a step is its change: the list of its parts, the first of which is 0
abbrev pub change_text : Differs → List ℕ
change_text d = codes ",[0" ++ parts_text d.parts d.added ++ codes "]"

abbrev pub moment_text : MomentOf → List ℕ
moment_text m = change_text m.change

-- the steps of a line, behind a 0
abbrev pub group_text : List MomentOf → List ℕ
group_text ms = codes ",[0" ++ flat_map moment_text ms ++ codes "]"

-- those of each line, which makes as many of them as are its own
abbrev pub groups_text : List (List ℕ) → List MomentOf → List ℕ
groups_text [] ms = []
groups_text (l ∷ ls) ms = group_text (take (span_of l ms) ms) ++ groups_text ls (drop (span_of l ms) ms)

-- a text behind its name
unfoldable pub field_text : List ℕ → List ℕ → List ℕ
field_text name text = name ++ string_text text

-- the steps of each line, between these
unfoldable pub steps_text : List ℕ → List (List ℕ) → List MomentOf → List ℕ → List ℕ
steps_text front lines ms back = front ++ groups_text lines ms ++ back

-- the trace, what its replay showed, the first state, and the steps of each line, behind a 0
unfoldable pub data_text : List ℕ → List ℕ → Recorded → List ℕ
data_text trace shown r = field_text (codes "{\"trace\":") trace ++ field_text (codes ",\n\"shown\":") shown
    ++ field_text (codes ",\n\"first\":") r.first ++ steps_text (codes ",\n\"steps\":[0") (lines_of trace) r.moments (codes "]}")

-- between the front and the back of a page
abbrev pub page_text : List ℕ → List ℕ → List ℕ → List ℕ → Recorded → List ℕ
page_text front back trace shown r = front ++ data_text trace shown r ++ back
