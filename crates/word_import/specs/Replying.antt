-- What the replies of a log come to: what is written and told, and how it ends.
use Rattle.std.specs.Prelude.{◌≡◌, ℕ, Bool, List, Option, Result, Ok, Err, length}
use Rattle.std.specs.Io.KnownBytes.{Appends}
use Rattle.trace_io.specs.Lines.{lines_of}
use Rattle.trace_io.specs.declared.fault.IoFault.{IoFault}
use Rattle.import_log.specs.Ends.{MakeStops}
use Rattle.import_log.specs.Imported.{chosen_all, ending_all, process_in, processes_all, processes_of}
use Rattle.import_log.specs.declared.entries.Entries.{Entries}
use Rattle.import_log.specs.declared.owned.OwnedLines.{OwnedLines}
use Rattle.import_log.specs.declared.processes.Choice.{Choice}
use Rattle.import_steps.specs.Counts.{total}
use Rattle.import_steps.specs.Taking.{SoFar}
use Rattle.word_import.specs.Replied.{clock_of, ending_replied, is_broken, is_late, replies_by, replies_ending, replies_made, replies_of, replies_or_none}
use Rattle.word_import.specs.declared.replying.RepliesReport.{RepliesReport}

-- this is told of lines with these texts, and this text made of them
pub record ReportsLines (raw : List (List ℕ)) (start : SoFar) (choice : Choice) (several : Bool) (owned : OwnedLines) (r : RepliesReport)
    (text : List ℕ) : Type 0 where
  pub ending : r.told.report.ending
      ≡ ending_replied (is_broken raw) (is_late several (replies_or_none raw start choice owned.lines).0) (ending_all owned.unclear start choice owned.lines)
  pub counts : r.told.report.counts ≡ (replies_or_none raw start choice owned.lines).1
  pub all : total r.told.report.counts ≡ length owned.lines
  pub processes : r.told.report.processes.items ≡ processes_all choice.joined owned.lines
  pub process : r.told.report.process ≡ chosen_all choice owned.lines
  pub calls : r.calls ≡ length (replies_or_none raw start choice owned.lines).0.calls
  pub clock : r.clock ≡ clock_of (replies_or_none raw start choice owned.lines).0.calls
  pub written : text ≡ replies_by r.told.report.ending (replies_or_none raw start choice owned.lines).0

-- this is told of the replies of a log, of one file or of several, behind what is there at the start
pub record TellsReplies (start : SoFar) (choice : Choice) (several : Bool) (input : List ℕ) (r : RepliesReport) : Type 0 where
  pub ending : r.told.report.ending ≡ replies_ending start choice several input
  pub counts : r.told.report.counts ≡ (replies_of start choice input).1
  pub all : total r.told.report.counts ≡ length (lines_of input)
  pub processes : r.told.report.processes.items ≡ processes_of choice.joined input
  pub process : r.told.report.process ≡ process_in choice input
  pub calls : r.calls ≡ length (replies_of start choice input).0.calls
  pub clock : r.clock ≡ clock_of (replies_of start choice input).0.calls

-- the text was written, and this is told of it
pub record RepliesAll (start : SoFar) (listed : Entries) (choice : Choice) (several : Bool) (input : List ℕ) (old new : Option (List ℕ))
    (r : RepliesReport) : Type 0 where
  pub told : TellsReplies start choice several input r
  pub entries : r.told.entries ≡ listed
  pub written : Appends old new (replies_made start choice several input)

-- all told, or stopped at a fault
abbrev pub RepliesEnd : SoFar → Entries → Choice → Bool → List ℕ → Option (List ℕ) → Option (List ℕ) → Result RepliesReport IoFault → Type 0
RepliesEnd start listed choice several input old new (Ok r) = RepliesAll start listed choice several input old new r
RepliesEnd start listed choice several input old new (Err f) = MakeStops (replies_made start choice several input) old new f
