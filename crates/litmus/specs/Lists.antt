-- Outcomes for other programs.
use Rattle.std.specs.Prelude.{ℕ, Bool, true, false, List, [], ◌∷◌, ◌++◌, codes, slice_get, Option, None, Some, if◌then◌else◌}
use Rattle.vm_base.specs.declared.replies.Reply.{Reply}
use Rattle.slot_lock.specs.declared.map_list.MapLine.{MapLine}
use Rattle.trace_text.specs.Printing.{text_of}
use Rattle.litmus_report.specs.Texts.{all_mapped}
use Rattle.litmus_report.specs.Verdicts.{Outcome}

-- a reply, with a tab in front but at the front of a line
abbrev pub cell_text : Bool → Reply → List ℕ
cell_text first reply = (if first then [] else codes "\t") ++ text_of reply

abbrev pub cells_text : Bool → List Reply → List ℕ
cells_text first [] = []
cells_text first (reply ∷ replies) = cell_text first reply ++ cells_text false replies

-- the mappings, where they are asked for
abbrev pub maps_cell : Bool → List MapLine → List ℕ
maps_cell true lines = codes "\t" ++ all_mapped lines
maps_cell false lines = []

-- the replies, what loads of the final addresses show, the mappings, and `open` of an outcome that isn't known to come about, divided by tabs
abbrev pub list_line : Bool → Outcome → List ℕ
list_line maps o = cells_text true o.replies ++ cells_text false o.finals ++ maps_cell maps o.maps ++ (if o.reached then [] else codes "\topen") ++ codes "\n"

abbrev pub line_if : Bool → Option Outcome → List ℕ
line_if maps None = []
line_if maps (Some o) = list_line maps o

-- of the outcome at a place
abbrev pub row_line : Bool → List Outcome → ℕ → List ℕ
row_line maps outcomes place = line_if maps (slice_get outcomes place)
