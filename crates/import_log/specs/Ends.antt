-- How an import ends.
use Rattle.std.specs.Prelude.{◌≡◌, ℕ, List, [], Option, Result, Ok, Err, length, map}
use Rattle.std.specs.Io.KnownBytes.{Keeps, Appends}
use Rattle.trace_io.specs.Lines.{lines_of}
use Rattle.trace_io.specs.Sink.{AppendsFront}
use Rattle.trace_io.specs.declared.fault.IoFault.{IoFault}
use Rattle.trace_io.specs.declared.fault.IoFault.TheVariants.{ReadFailed, NoMemory, WriteFailed}
use Rattle.import_steps.specs.Counts.{total}
use Rattle.import_log.specs.Imported.{ending_of, import_of, process_in, processes_of, unread_of}
use Rattle.import_log.specs.Programs.{program_name, programs_in}
use Rattle.import_steps.specs.Taking.{SoFar}
use Rattle.import_steps.specs.Texts.{imported_text}
use Rattle.import_steps.specs.declared.counts.LineCounts.{LineCounts}
use Rattle.import_log.specs.declared.import.Ending.{Ending}
use Rattle.import_log.specs.declared.import.Ending.TheVariants.{Written, Nothing, Absent, Refused}
use Rattle.import_log.specs.declared.import.Report.{Report}
use Rattle.import_log.specs.declared.processes.Choice.{Choice}

-- the text that is made of a log was written, and each of its lines is counted so
pub record MakesText (text : List ℕ) (made counts : LineCounts) (input : List ℕ) (old new : Option (List ℕ)) : Type 0 where
  pub written : Appends old new text
  pub told : counts ≡ made
  pub all : total counts ≡ length (lines_of input)

-- after a failed write a front of it was written, after another fault nothing
abbrev pub MakeStops : List ℕ → Option (List ℕ) → Option (List ℕ) → IoFault → Type 0
MakeStops text old new ReadFailed = Keeps old new
MakeStops text old new NoMemory = Keeps old new
MakeStops text old new WriteFailed = AppendsFront old new text

-- all lines told, or stopped at a fault
abbrev pub MakeEnds : List ℕ → LineCounts → List ℕ → Option (List ℕ) → Option (List ℕ) → Result LineCounts IoFault → Type 0
MakeEnds text made input old new (Ok counts) = MakesText text made counts input old new
MakeEnds text made input old new (Err f) = MakeStops text old new f

-- the trace, where there is one
abbrev pub ended_text : Ending → SoFar → List ℕ
ended_text Written s = imported_text 256 s
ended_text Nothing s = []
ended_text Absent s = []
ended_text (Refused refusal) s = []

-- the trace of what is there at the start and of what is taken of a log; nothing where no line is about the thread that was named, no
-- request would be in it, or the log is refused
abbrev pub made_text : SoFar → Choice → List ℕ → List ℕ
made_text start choice input = ended_text (ending_of start choice input) (import_of start choice input).0

-- this is taken of a log, and this is said about it
pub record IsImported (start : SoFar) (choice : Choice) (input : List ℕ) (taken : SoFar) (report : Report) : Type 0 where
  pub value : (taken, report.counts) ≡ import_of start choice input
  pub ending : report.ending ≡ ending_of start choice input
  pub processes : report.processes.items ≡ processes_of choice.joined input
  pub programs : map program_name report.programs.items ≡ programs_in choice.joined input
  pub process : report.process ≡ process_in choice input
  pub unread : report.unread.items ≡ unread_of start choice input
  pub total : total report.counts ≡ length (lines_of input)

-- the trace of a log was written, and this told of it
pub record ImportsAll (start : SoFar) (choice : Choice) (input : List ℕ) (old new : Option (List ℕ)) (report : Report) : Type 0 where
  pub log : MakesText (made_text start choice input) (import_of start choice input).1 report.counts input old new
  pub ending : report.ending ≡ ending_of start choice input
  pub processes : report.processes.items ≡ processes_of choice.joined input
  pub programs : map program_name report.programs.items ≡ programs_in choice.joined input
  pub process : report.process ≡ process_in choice input
  pub unread : report.unread.items ≡ unread_of start choice input

-- how an import ends
abbrev pub ImportEnds : SoFar → Choice → List ℕ → Option (List ℕ) → Option (List ℕ) → Result Report IoFault → Type 0
ImportEnds start choice input old new (Ok report) = ImportsAll start choice input old new report
ImportEnds start choice input old new (Err f) = MakeStops (made_text start choice input) old new f
