-- How an import of a log ends that begins where a list of mappings leaves off.
use Rattle.std.specs.Prelude.{◌≡◌, ◌⊎◌, ℕ, true, List, Option, OnOk, Result, Ok, Err, length}
use Rattle.trace_io.specs.Io.{ReadFrom, WrittenTo}
use Rattle.trace_io.specs.Lines.{lines_of}
use Rattle.trace_io.specs.Source.{HasStopped}
use Rattle.trace_io.specs.declared.fault.IoFault.{IoFault}
use Rattle.trace_io.specs.declared.fault.IoFault.TheVariants.{ReadFailed, WriteFailed}
use Rattle.import_log.specs.Ends.{ImportsAll, MakeStops, made_text}
use Rattle.import_steps.specs.Taking.{SoFar}
use Rattle.import_log.specs.declared.processes.Choice.{Choice}
use Rattle.import_log.specs.Entries.{total}
use Rattle.import_log.specs.Starting.{start_of}
use Rattle.import_log.specs.declared.entries.Entries.{Entries}
use Rattle.import_log.specs.declared.mapped.MapsReport.{MapsReport}

-- the trace of what is mapped at the start and of what is taken of the log was written; each line of the log is counted, and so many
-- lines of the list became what they did
pub record StartsAll (start : SoFar × Entries) (lines : ℕ) (choice : Choice) (input : List ℕ) (old new : Option (List ℕ)) (told : MapsReport) : Type 0 where
  pub log : ImportsAll start.0 choice input old new told.report
  pub entries : told.entries ≡ start.1
  pub all : total told.entries ≡ lines

-- how an import ends that begins with what a list has told: all told, or stopped at a fault
abbrev pub StartedEnds : SoFar × Entries → ℕ → Choice → List ℕ → Option (List ℕ) → Option (List ℕ) → Result MapsReport IoFault → Type 0
StartedEnds start lines choice input old new (Ok told) = StartsAll start lines choice input old new told
StartedEnds start lines choice input old new (Err f) = MakeStops (made_text start.0 choice input) old new f

-- behind what a list says, each of whose lines is counted
abbrev pub MapsEnds : List ℕ → Choice → List ℕ → Option (List ℕ) → Option (List ℕ) → Result MapsReport IoFault → Type 0
MapsEnds list choice input old new r = StartedEnds (start_of list) (length (lines_of list)) choice input old new r

-- `read failed` is told only of a read of the list or of the log that failed or was one too many, and `write failed` only where a
-- write or a flush failed; where it isn't told, none failed; where the trace was written, it has gone out
pub record TellsMaps {T : Type 0} (r : Result T IoFault) (list log : ReadFrom) (sink : WrittenTo) : Type 0 where
  pub read : r ≡ Err ReadFailed → HasStopped list.failed list.reads ⊎ HasStopped log.failed log.reads
  pub write : r ≡ Err WriteFailed → sink.failed ≡ true
  pub kept : (r ≡ Err WriteFailed) ⊎ (sink.failed ≡ sink.had_failed)
  pub out : OnOk r (sink.is_flushed ≡ true)
