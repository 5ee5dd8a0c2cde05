-- The list of mappings, as C reads it
use Rattle.std.specs.Prelude.{◌≡◌, ◌⊎◌, List, ◌++◌, length, map, take, drop, true}
use Rattle.std.specs.Prelude.{Option, None, Some, Result, Ok, Err}
use Rattle.vm_base.specs.declared.info.Back.{Back}
use Rattle.vm_base.specs.declared.info.Back.TheVariants.{Anon, Shared, Private}
use Rattle.slot_lock.specs.declared.map_list.MapLine.{MapLine}
use Rattle.machine_model.specs.World.{World}
use Rattle.core_steps.specs.MapLines.{ListsMaps}
use Rattle.coded.specs.declared.opening.Refusal.{Refusal}
use Rattle.coded.specs.declared.opening.Refusal.TheVariants as By
use Rattle.coded.specs.declared.batch.BatchStop.TheVariants.{NoMemory}
use Rattle.coded.specs.declared.batch.BatchEnd.{BatchEnd}
use Rattle.coded.specs.declared.batch.Done.{Done}
use Rattle.coded.specs.declared.maps.RawLine.{RawLine}
use Rattle.coded.specs.Bits.{bits_of_prot}
use Rattle.coded.specs.Batches.{is_past, done_of}
use Rattle.coded.specs.Holding.{HeldState, empty_done}

-- a line of which no file is told
abbrev pub plain_code : MapLine → RawLine
plain_code line = record {
  first = line.range.first;
  end = line.range.end;
  page = 0;
  file = 0;
  back = 0;
  prot = bits_of_prot line.prot;
}

-- a line with what backs its pages
abbrev pub code_with : MapLine → Back → RawLine
code_with line Anon = plain_code line
code_with line (Shared file page) =
    record (plain_code line) { page = page; file = file; back = 1 }
code_with line (Private file page) =
    record (plain_code line) { page = page; file = file; back = 2 }

abbrev pub line_code : MapLine → RawLine
line_code line = code_with line line.back

-- as many lines as there is room for are told, and the other places are as they were
abbrev pub told_lines : List MapLine → List RawLine → List RawLine
told_lines lines was = map line_code (take (length was) lines) ++ drop (length lines) was

-- the list of all mappings is told as far as there is room, and how many there are; or the buffer is
-- said to be too long; or memory was refused, and nothing is told
abbrev pub ListsOn : World → List RawLine → Result BatchEnd Refusal → List RawLine → Type 0
ListsOn w was (Ok ended) told =
    ((lines : List MapLine) × ListsMaps w lines × (ended ≡ record { stop = None; count = length lines })
    × (told ≡ told_lines lines was))
    ⊎ ((ended ≡ record { stop = Some NoMemory; count = 0 }) × (told ≡ was))
ListsOn w was (Err refusal) told =
    (refusal ≡ By.TooLong) × (is_past (length was) ≡ true) × (told ≡ was)

-- what C reads of the list of mappings
abbrev pub TellsMaps : Option HeldState → List RawLine → Done → List RawLine → Type 0
TellsMaps None was done told = (done ≡ empty_done) × (told ≡ was)
TellsMaps (Some h) was done told =
    (r : Result BatchEnd Refusal) × (done ≡ done_of r) × ListsOn h.world was r told
