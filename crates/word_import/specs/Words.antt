-- What the word `import` does: how it ends, what is read and written by then, and the status.
use Rattle.std.specs.Prelude.{◌≡◌, ℕ, Bool, Result, Err, Vec}
use Rattle.word_import.specs.Replying.{RepliesEnd}
use Rattle.word_import.specs.Status.{accesses_status, each_status, log_status, replies_status}
use Rattle.word_import.specs.declared.replying.RepliesReport.{RepliesReport}
use Rattle.import_lackey.specs.Traced.{TraceEnds}
use Rattle.import_log.specs.Mapped.{MapsEnds, TellsMaps}
use Rattle.import_log.specs.Starting.{start_of}
use Rattle.import_log.specs.declared.mapped.MapsReport.{MapsReport}
use Rattle.import_log.specs.Each.{EachEnds}
use Rattle.import_log.specs.declared.each.ProcessTrace.{ProcessTrace}
use Rattle.import_log.specs.declared.processes.Choice.{Choice}
use Rattle.std.specs.declared.alloc.Global.{Global}
use Rattle.trace_io.specs.Io.{ReadFrom, TellsSent, WrittenTo}
use Rattle.trace_io.specs.Source.{HasStopped, Reads}
use Rattle.trace_io.specs.declared.fault.IoFault.{IoFault}
use Rattle.trace_io.specs.declared.fault.IoFault.TheVariants.{ReadFailed}
use Rattle.word_parts.specs.Ends.{EndsInOneWay}

-- the trace of a log of strace, of the process that is chosen, behind that of a list of mappings
abbrev pub ImportsLog : Choice → ReadFrom → ReadFrom → WrittenTo → ℕ → Type 0
ImportsLog choice list text out n = (r : Result MapsReport IoFault) × (n ≡ log_status r)
    × Reads list.before list.after (λ listed left.
    Reads text.before text.after (λ input unread. MapsEnds listed choice input out.before out.after r))
    × TellsMaps r list text out

-- the calls of a log of strace with their replies, behind the mappings of a list
abbrev pub ImportsReplies : Choice → Bool → ReadFrom → ReadFrom → WrittenTo → ℕ → Type 0
ImportsReplies choice several list text out n = (r : Result RepliesReport IoFault) × (n ≡ replies_status r)
    × Reads list.before list.after (λ listed left.
    Reads text.before text.after (λ input unread. RepliesEnd (start_of listed).0 (start_of listed).1 choice several input out.before out.after r))
    × TellsMaps r list text out

-- the traces of a log of strace, one for each process; `read failed` is told only of a read that failed or was one too many
abbrev pub ImportsEach : ReadFrom → ℕ → Type 0
ImportsEach text n = (r : Result (Vec ProcessTrace Global) IoFault) × (n ≡ each_status r)
    × Reads text.before text.after (λ input unread. EachEnds input r) × (r ≡ Err ReadFailed → HasStopped text.failed text.reads)

-- the trace of a log of lackey
abbrev pub ImportsAccesses : ReadFrom → WrittenTo → ℕ → Type 0
ImportsAccesses text out n = EndsInOneWay accesses_status (λ input unread. TraceEnds input) (TellsSent (λ f. f)) text out n
