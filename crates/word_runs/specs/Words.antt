-- What the words that run a machine do: how each ends, what is read and written by then, and the status.
use Rattle.std.specs.Prelude.{ℕ, Bool, []}
use Rattle.trace.specs.Echo.{EchoEnds, echo_limit}
use Rattle.word_runs.specs.Status.{certified_live_status, certified_status, live_status, told_status}
use Rattle.word_parts.specs.declared.asked.Shows.{Shows}
use Rattle.machine_model.specs.declared.setup.CallLimit.{CallLimit}
use Rattle.live_script.specs.Ends.{IsSummedHistory}
use Rattle.live_script.specs.Texts.{EndsText, IsSummedText, IsVerdictText, TellsText}
use Rattle.notes_text.specs.CertifyEnds.{Certifies}
use Rattle.shared_script.specs.Texts.{EndsShared, TellsShared}
use Rattle.slot_lock.specs.Slots.{Slots}
use Rattle.trace.specs.Ends.{Ends}
use Rattle.trace_words.specs.Faults.{TellsFaults}
use Rattle.trace.specs.Shown.{limit_for}
use Rattle.trace_words.specs.Status.{status_of}
use Rattle.trace_io.specs.Io.{ReadFrom, WrittenTo}
use Rattle.vm_base.specs.declared.page.PageRange.{PageRange}
use Rattle.word_parts.specs.Ends.{EndsInOneWay}

-- a replay that shows this
abbrev pub ReplaysTrace : Shows → ReadFrom → WrittenTo → ℕ → Type 0
ReplaysTrace shows text out n = EndsInOneWay status_of (Ends {T = Unit} (limit_for shows.show shows.limit) shows.show) TellsFaults text out n

-- a replay that shows each line beside its outcome, in colours or without, and below it what it adds to the log, or not
abbrev pub EchoesTrace : Bool → Bool → CallLimit → ReadFrom → WrittenTo → ℕ → Type 0
EchoesTrace coloured logs limit text out n =
    EndsInOneWay status_of (λ input unread. EchoEnds {T = Unit} coloured logs [] (echo_limit logs limit) input) TellsFaults text out n

-- the certificate of notes
abbrev pub CertifiesNotes : Type 0 → (PageRange → ℕ → ℕ → Bool) → (Slots → ℕ → Type 0) → (Slots → Slots → ℕ → Type 0)
    → ReadFrom → WrittenTo → ℕ → Type 0
CertifiesNotes A parts CanFold Folds text out n = EndsInOneWay certified_status (Certifies A parts CanFold Folds) TellsFaults text out n

-- a run of a script on threads, whose notes are written
abbrev pub RunsScript : ReadFrom → WrittenTo → ℕ → Type 0
RunsScript text out n = EndsInOneWay live_status (EndsText IsSummedText) TellsText text out n

-- such a run, the history of whose calls is written
abbrev pub WritesHistory : ReadFrom → WrittenTo → ℕ → Type 0
WritesHistory text out n = EndsInOneWay live_status (EndsText IsSummedHistory) TellsText text out n

-- the certificate of such a run
abbrev pub CertifiesRun : Type 0 → (PageRange → ℕ → ℕ → Bool) → (Slots → ℕ → Type 0) → (Slots → Slots → ℕ → Type 0)
    → ReadFrom → WrittenTo → ℕ → Type 0
CertifiesRun A parts CanFold Folds text out n =
    EndsInOneWay certified_live_status (EndsText (IsVerdictText A parts CanFold Folds)) TellsText text out n

-- a run of a script on threads over one machine, whose replies and log are written
abbrev pub SharesScript : ReadFrom → WrittenTo → ℕ → Type 0
SharesScript text out n = EndsInOneWay told_status (EndsShared {T = Unit}) TellsShared text out n
