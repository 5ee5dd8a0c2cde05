-- The status that a program of a replay ends with.
use Rattle.std.specs.Prelude.{ℕ, Result, Ok, Err}
use Rattle.machine_model.specs.declared.setup.SetupFault.TheVariants as Of
use Rattle.trace_words.specs.declared.fault.TraceFault.{TraceFault}
use Rattle.trace_words.specs.declared.fault.TraceFault.TheVariants.{BadLine, TooLong, ReadFailed, NoVmLine}
use Rattle.trace_words.specs.declared.fault.TraceFault.TheVariants.{NoMemory, Setup, WriteFailed}

-- 2 where the text is at fault, 3 where its surroundings are
abbrev pub fault_status : TraceFault → ℕ
fault_status (BadLine number) = 2
fault_status (TooLong number) = 2
fault_status NoVmLine = 2
fault_status (Setup Of.Cores) = 2
fault_status (Setup Of.Frames) = 2
fault_status (Setup Of.TooManyFiles) = 2
fault_status (Setup Of.FileTooLong) = 2
fault_status (Setup Of.Calls) = 2
fault_status (Setup Of.NoMemory) = 3
fault_status ReadFailed = 3
fault_status NoMemory = 3
fault_status WriteFailed = 3

abbrev pub status_of : {T : Type 0} → Result T TraceFault → ℕ
status_of (Ok x) = 0
status_of (Err f) = fault_status f
