-- Lines of the log that were not handed on yet.
use Rattle.std.specs.Prelude.{ℕ, ◌+◌, ◌≤◌, List, take}
use Rattle.trace.specs.declared.log_lines.LogLines.{LogLines}

-- their text
abbrev pub so_far : LogLines → List ℕ
so_far lines = take lines.len lines.bytes

-- there is room for the line of any entry
abbrev pub HasRoom : LogLines → Type 0
HasRoom lines = lines.len + 256 ≤ 16384
