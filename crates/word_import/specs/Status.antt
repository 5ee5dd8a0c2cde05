-- The status of an import.
use Rattle.std.specs.Prelude.{ℕ, List, [], ◌∷◌, Result, Ok, Err, Vec, if◌then◌else◌, ◌==◌}
use Rattle.import_lackey.specs.declared.traced.LackeyReport.{LackeyReport}
use Rattle.import_log.specs.declared.mapped.MapsReport.{MapsReport}
use Rattle.import_log.specs.declared.each.ProcessTrace.{ProcessTrace}
use Rattle.import_log.specs.declared.import.Ending.{Ending}
use Rattle.import_log.specs.declared.import.Ending.TheVariants.{Written, Nothing, Absent, Refused}
use Rattle.trace_io.specs.declared.fault.IoFault.{IoFault}
use Rattle.word_import.specs.declared.replying.RepliesReport.{RepliesReport}

-- of a log of strace: 2 where there is no trace, since no request would be in it, no line is about the thread that was named, or the log
-- is refused
abbrev pub ending_status : Ending → ℕ
ending_status Written = 0
ending_status Nothing = 2
ending_status Absent = 2
ending_status (Refused refusal) = 2

abbrev pub log_status : Result MapsReport IoFault → ℕ
log_status (Ok told) = ending_status told.report.ending
log_status (Err f) = 3

-- of a log of strace with its replies
abbrev pub replies_status : Result RepliesReport IoFault → ℕ
replies_status (Ok r) = ending_status r.told.report.ending
replies_status (Err f) = 3

-- of a log of strace, each process apart: 2 where none has a trace
abbrev pub parts_status : List ProcessTrace → ℕ
parts_status [] = 2
parts_status (p ∷ ps) = if ending_status p.ending == 0 then 0 else parts_status ps

abbrev pub each_status : {A : Type 0} → Result (Vec ProcessTrace A) IoFault → ℕ
each_status (Ok parts) = parts_status parts.items
each_status (Err f) = 3

-- of a log of lackey
abbrev pub accesses_status : Result LackeyReport IoFault → ℕ
accesses_status (Ok told) = ending_status told.ending
accesses_status (Err f) = 3
