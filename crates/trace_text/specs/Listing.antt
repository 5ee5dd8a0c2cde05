-- The list of mappings as text
use Rattle.std.specs.Prelude.{ℕ, List}
use Rattle.std.specs.List.{flat_map}
use Rattle.slot_lock.specs.declared.map_list.MapLine.{MapLine}
use Rattle.trace_text.specs.Lists.{map_line}

-- a line for each mapping, in order
abbrev pub mapping_text : MapLine → List ℕ
mapping_text line = map_line line.range line.prot line.back

unfoldable pub maps_text : List MapLine → List ℕ
maps_text lines = flat_map mapping_text lines
