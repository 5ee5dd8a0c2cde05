-- Which faults are told, and as what those of reading and writing are.
use Rattle.std.specs.Prelude.{◌≡◌, ◌⊎◌, true, Result, Err}
use Rattle.trace_io.specs.Io.{ReadFrom, WrittenTo}
use Rattle.trace_io.specs.Source.{HasStopped}
use Rattle.trace_io.specs.declared.fault.IoFault.{IoFault}
use Rattle.trace_io.specs.declared.fault.IoFault.TheVariants as Io
use Rattle.trace_words.specs.declared.fault.TraceFault.{TraceFault}
use Rattle.trace_words.specs.declared.fault.TraceFault.TheVariants.{ReadFailed, NoMemory, WriteFailed}

-- as what a fault of reading and writing is told
abbrev pub fault_named : IoFault → TraceFault
fault_named Io.ReadFailed = ReadFailed
fault_named Io.NoMemory = NoMemory
fault_named Io.WriteFailed = WriteFailed

-- `read failed` is told only of a read that failed or was one too many, and `write failed` only
-- where a write or a flush failed; where it isn't told, none failed, and all that was written has
-- gone out.
pub record TellsFaults {T : Type 0} (r : Result T TraceFault) (text : ReadFrom) (sink : WrittenTo) : Type 0 where
  pub read : r ≡ Err ReadFailed → HasStopped text.failed text.reads
  pub write : r ≡ Err WriteFailed → sink.failed ≡ true
  pub out : (r ≡ Err WriteFailed) ⊎ ((sink.failed ≡ sink.had_failed) × (sink.is_flushed ≡ true))
