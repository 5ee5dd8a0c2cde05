-- How an import of a log of lackey ends.
use Rattle.std.specs.Prelude.{◌≡◌, ℕ, List, [], Option, Result, Ok, Err, if◌then◌else◌, ◌==◌, length}
use Rattle.trace_io.specs.declared.fault.IoFault.{IoFault}
use Rattle.import_log.specs.Ends.{MakesText, MakeStops}
use Rattle.import_steps.specs.Taking.{SoFar}
use Rattle.import_steps.specs.Texts.{imported_text}
use Rattle.import_log.specs.declared.import.Ending.{Ending}
use Rattle.import_log.specs.declared.import.Ending.TheVariants.{Written, Nothing, Absent, Refused}
use Rattle.import_lackey.specs.Tracing.{State, trace_of}
use Rattle.import_lackey.specs.declared.traced.LackeyReport.{LackeyReport}

-- an import without a request is an error
abbrev pub ending_from : State → Ending
ending_from s = if length s.taken.steps == 0 then Nothing else Written

abbrev pub ending_of : List ℕ → Ending
ending_of input = ending_from (trace_of input).0

-- the trace, of 65,536 frames, where there is one
abbrev pub ended_text : Ending → SoFar → List ℕ
ended_text Written s = imported_text 65536 s
ended_text Nothing s = []
ended_text Absent s = []
ended_text (Refused refusal) s = []

-- the trace of what is taken of the log; nothing where no request would be in it
abbrev pub traced_text : List ℕ → List ℕ
traced_text input = ended_text (ending_of input) (trace_of input).0.taken

-- the trace of a log was written, each line being counted, and this told of it
pub record TracesAll (input : List ℕ) (old new : Option (List ℕ)) (told : LackeyReport) : Type 0 where
  pub log : MakesText (traced_text input) (trace_of input).1 told.counts input old new
  pub ending : told.ending ≡ ending_of input

-- after a failed write a front of it was written, after another fault nothing
abbrev pub TraceEnds : List ℕ → Option (List ℕ) → Option (List ℕ) → Result LackeyReport IoFault → Type 0
TraceEnds input old new (Ok told) = TracesAll input old new told
TraceEnds input old new (Err f) = MakeStops (traced_text input) old new f
