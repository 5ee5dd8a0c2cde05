-- What a function reads from a source and writes to a sink, and which failures it tells.
use Rattle.std.specs.Prelude.{◌≡◌, ◌⊎◌, ℕ, Bool, true, List, Option, OnErr, OnOk, Result, Err}
use Rattle.std.specs.Io.KnownBytes.{Appends}
use Rattle.trace_io.specs.Sink.{AppendsFront}
use Rattle.trace_io.specs.Source.{Stream, HasStopped}
use Rattle.trace_io.specs.declared.fault.IoFault.{IoFault}
use Rattle.trace_io.specs.declared.fault.IoFault.TheVariants.{ReadFailed, WriteFailed}
use Rattle.trace_io.specs.declared.sink.Sink.{Ghosts as SinkGhosts}
use Rattle.trace_io.specs.declared.source.Source.{Ghosts as SourceGhosts}

-- a reader's bytes before a function and after it, whether a read has failed, and how many there were
pub record ReadFrom : Type 0 where
  pub before : Stream
  pub after : Stream
  pub failed : Bool
  pub reads : ℕ

abbrev pub read_from : {S : Type 0} → SourceGhosts S → S → S → ReadFrom
read_from source before after = record {
  before = source.stream before;
  after = source.stream after;
  failed = source.failed after;
  reads = source.reads after;
}

-- what a writer held before a function and after it, whether a write had failed before, whether one has, and whether all has gone out
pub record WrittenTo : Type 0 where
  pub before : Option (List ℕ)
  pub after : Option (List ℕ)
  pub had_failed : Bool
  pub failed : Bool
  pub is_flushed : Bool

abbrev pub written_to : {W : Type 0} → SinkGhosts W → W → W → WrittenTo
written_to sink before after = record {
  before = sink.contents before;
  after = sink.contents after;
  had_failed = sink.failed before;
  failed = sink.failed after;
  is_flushed = sink.is_flushed after;
}

-- all of the bytes were written, and no write failed; or a front of them was, and one did
pub record IsWritten {T E : Type 0} (r : Result T E) (sink : WrittenTo) (bytes : List ℕ) : Type 0 where
  pub ok : OnOk r (Appends sink.before sink.after bytes)
  pub kept : OnOk r (sink.failed ≡ sink.had_failed)
  pub front : OnErr r (AppendsFront sink.before sink.after bytes)
  pub err : OnErr r (sink.failed ≡ true)

-- Of a function whose faults have these names: `read failed` is told only of a read that failed or was one too many, and
-- `write failed` only where a write or a flush failed; where it isn't told, none failed.
pub record TellsIo {T E : Type 0} (named : IoFault → E) (r : Result T E) (text : ReadFrom) (sink : WrittenTo) : Type 0 where
  pub read : r ≡ Err (named ReadFailed) → HasStopped text.failed text.reads
  pub write : r ≡ Err (named WriteFailed) → sink.failed ≡ true
  pub kept : (r ≡ Err (named WriteFailed)) ⊎ (sink.failed ≡ sink.had_failed)

-- the same, and where there is no fault, all that was written has gone out
pub record TellsSent {T E : Type 0} (named : IoFault → E) (r : Result T E) (text : ReadFrom) (sink : WrittenTo) : Type 0 where
  pub read : r ≡ Err (named ReadFailed) → HasStopped text.failed text.reads
  pub write : r ≡ Err (named WriteFailed) → sink.failed ≡ true
  pub kept : (r ≡ Err (named WriteFailed)) ⊎ (sink.failed ≡ sink.had_failed)
  pub out : OnOk r (sink.is_flushed ≡ true)
