-- One trace for each process of a log.
use Rattle.std.specs.Prelude.{◌≡◌, ℕ, Bool, false, List, Some, Result, Ok, Err, Vec, map, ⊤}
use Rattle.import_forms.specs.Speech.{Spoken}
use Rattle.import_log.specs.Ends.{ended_text, made_text}
use Rattle.import_log.specs.Imported.{ending_all, ending_of, import_all, import_of, processes_of, speeches_of}
use Rattle.import_lines.specs.Made.{all_makings}
use Rattle.import_log.specs.Programs.{owners, program_name, program_of}
use Rattle.import_steps.specs.Taking.{SoFar, nothing_taken}
use Rattle.trace_io.specs.declared.fault.IoFault.{IoFault}
use Rattle.import_steps.specs.declared.counts.LineCounts.{LineCounts}
use Rattle.import_log.specs.declared.each.ProcessTrace.{ProcessTrace}
use Rattle.import_log.specs.declared.import.Ending.{Ending}
use Rattle.import_log.specs.declared.processes.Choice.{Choice}
use Rattle.import_log.specs.declared.processes.Process.{Process}

-- the process of this thread alone
abbrev pub only : ℕ → Choice
only number = record { thread = Some number; joined = false; from_empty = false }

-- a process, the program that it began last, how its import ends, what becomes of the lines of the log, and its trace
abbrev pub Parted : Type 0
Parted = Process × (List ℕ × (Ending × (LineCounts × List ℕ)))

abbrev pub parted : ProcessTrace → Parted
parted p = (p.process, (program_name p.program, (p.ending, (p.counts, p.text.items))))

-- the program that a process began last
abbrev pub program_all : List Spoken → ℕ → List ℕ
program_all all number = program_of all (owners (all_makings false all) all) number

-- what comes of the lines for one process
abbrev pub part_all : Bool → SoFar → List Spoken → Process → Parted
part_all unclear start all p = (
  p,
  (
    program_all all p.number,
    (
      ending_all unclear start (only p.number) all,
      (
        (import_all start (only p.number) all).1,
        ended_text (ending_all unclear start (only p.number) all) (import_all start (only p.number) all).0,
      ),
    ),
  ),
)

-- what an import of the log comes to that names the process
abbrev pub part_for : SoFar → List ℕ → Process → Parted
part_for start input p = (
  p,
  (
    program_all (speeches_of input) p.number,
    (
      ending_of start (only p.number) input,
      ((import_of start (only p.number) input).1, made_text start (only p.number) input),
    ),
  ),
)

-- that of each process, in the order of their first lines
abbrev pub parts_of : SoFar → List ℕ → List Parted
parts_of start input = map (part_for start input) (processes_of false input)

-- what is told of a log that was read, where nothing was there at the start
abbrev pub EachEnds : {A : Type 0} → List ℕ → Result (Vec ProcessTrace A) IoFault → Type 0
EachEnds input (Ok parts) = map parted parts.items ≡ parts_of nothing_taken input
EachEnds input (Err f) = ⊤
