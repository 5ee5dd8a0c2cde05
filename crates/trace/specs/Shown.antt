-- What a replay shows: the text of outcomes, and what comes behind it at the end
use Rattle.std.specs.Prelude.{◌≡◌, ℕ, ◌^◌, ◌<◌, ◌≤◌, ◌⊎◌, Bool, true, false, List, [], Option}
use Rattle.std.specs.Io.KnownBytes.{Keeps, Appends}
use Rattle.vm_base.specs.declared.log.Entry.{Entry}
use Rattle.trace_io.specs.Sink.{AppendsFront}
use Rattle.vm_base.specs.Plain.{Plain}
use Rattle.slot_lock.specs.declared.map_list.MapLine.{MapLine}
use Rattle.slot_lock.specs.MapList.{ListsLines, plain_metas}
use Rattle.core_steps.specs.MapLines.{HasNoMap, IsLineStart, IsNextMap}
use Rattle.machine_model.specs.declared.setup.CallLimit.{CallLimit}
use Rattle.machine_model.specs.declared.setup.CallLimit.TheVariants.{Usual}
use Rattle.machine_model.specs.Log.{LeadsTo}
use Rattle.trace_text.specs.Lists.{log_text}
use Rattle.trace_text.specs.Listing.{maps_text}
use Rattle.trace_words.specs.declared.fault.TraceFault.{TraceFault}
use Rattle.trace_words.specs.declared.fault.TraceFault.TheVariants.{WriteFailed}
use Rattle.trace_words.specs.declared.show.Show.{Show}
use Rattle.trace_words.specs.declared.show.Show.TheVariants.{Outcomes, OutcomesAndLog, Maps}
use Rattle.trace.specs.Stage.{Stage, Start, Declared, Running, CanOpen, OpenFails}

-- what is written of the text of outcomes
abbrev pub told : Show → List ℕ → List ℕ
told Outcomes text = text
told OutcomesAndLog text = text
told Maps text = []

-- the log is kept just where it is to be written
abbrev pub keeps_log : Show → Bool
keeps_log Outcomes = false
keeps_log OutcomesAndLog = true
keeps_log Maps = false

-- which limit of calls holds of the one that is asked for: where the log is kept, the usual one
abbrev pub limit_for : Show → CallLimit → CallLimit
limit_for Outcomes limit = limit
limit_for OutcomesAndLog limit = Usual
limit_for Maps limit = limit

-- the log of the machine; up to the first event it is empty
abbrev pub log_at : Stage → List Entry
log_at (Start limit) = []
log_at (Declared limit a) = []
log_at (Running w) = w.calls.log

-- Of the plain page map to which the log leads: these are its mappings from page 1 up to this one,
-- in order. Up to the first event it has none.
abbrev pub ListsUpTo : Stage → ℕ → List MapLine → Type 0
ListsUpTo (Start limit) end lines = lines ≡ []
ListsUpTo (Declared limit a) end lines = lines ≡ []
ListsUpTo (Running w) end lines = (t : Plain) → LeadsTo w t → ListsLines (plain_metas t) 1 end lines

-- no mapping goes across the page
abbrev pub IsStartAt : Stage → ℕ → Type 0
IsStartAt (Start limit) from = Unit {0}
IsStartAt (Declared limit a) from = Unit {0}
IsStartAt (Running w) from = IsLineStart w from

-- this is the first mapping that begins there or above
abbrev pub IsNextAt : Stage → ℕ → MapLine → Type 0
IsNextAt (Start limit) from line = ⊥
IsNextAt (Declared limit a) from line = ⊥
IsNextAt (Running w) from line =
    IsNextMap w from line × (from < line.range.end) × (line.range.end ≤ 2 ^ 35)

-- there is none
abbrev pub HasNoneAt : Stage → ℕ → Type 0
HasNoneAt (Start limit) from = Unit {0}
HasNoneAt (Declared limit a) from = Unit {0}
HasNoneAt (Running w) from = HasNoMap w from

-- what comes behind the outcomes, where the trace ends at this stage
abbrev pub IsBehind : Show → Stage → List ℕ → Type 0
IsBehind Outcomes s text = text ≡ []
IsBehind OutcomesAndLog s text = text ≡ log_text (log_at s)
IsBehind Maps s text = (lines : List MapLine) × ListsUpTo s (2 ^ 35) lines × (text ≡ maps_text lines)

-- that, or of the mappings the first ones
abbrev pub IsBegunBehind : Show → Stage → List ℕ → Type 0
IsBegunBehind Outcomes s text = IsBehind Outcomes s text
IsBegunBehind OutcomesAndLog s text = IsBehind OutcomesAndLog s text
IsBegunBehind Maps s text =
    (end : ℕ) × (lines : List MapLine) × ListsUpTo s end lines × (text ≡ maps_text lines)

-- a machine could be made, and what comes behind the outcomes was written
pub record Closes (show : Show) (s : Stage) (old new : Option (List ℕ)) : Type 0 where
  pub opens : CanOpen s
  pub behind : List ℕ
  pub is : IsBehind show s behind
  pub appends : Appends old new behind

-- the same, but a write failed
pub record ClosesFront (show : Show) (s : Stage) (old new : Option (List ℕ)) : Type 0 where
  pub opens : CanOpen s
  pub behind : List ℕ
  pub is : IsBegunBehind show s behind
  pub appends : AppendsFront old new behind

-- why a trace couldn't be closed
abbrev pub CloseFails : Show → Stage → Option (List ℕ) → Option (List ℕ) → TraceFault → Type 0
CloseFails show s old new f =
    (OpenFails s f × Keeps old new) ⊎ ((f ≡ WriteFailed) × ClosesFront show s old new)
