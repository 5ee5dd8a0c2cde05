-- The columns of a run: each is a longest run of steps of one call that no other step comes between
use Rattle.std.specs.Prelude.{ℕ, ◌==◌, ◌&&◌, ◌||◌, Bool, true, false, nat_lt, List, [], ◌∷◌, ◌++◌, length}
use Rattle.std.specs.Prelude.{Option, None, Some, slice_index_or, if◌then◌else◌}
use Rattle.machine_model.specs.World.{World}
use Rattle.machine_model.specs.Events.{core_of}
use Rattle.machine_model.specs.declared.event.Blocker.{Blocker}
use Rattle.machine_model.specs.declared.event.Blocker.TheVariants as By
use Rattle.machine_model.specs.declared.event.Event.{Event}
use Rattle.machine_model.specs.declared.event.Event.TheVariants.{Call, Go, Frame, Guess, Whole, GiveUp}
use Rattle.machine_model.specs.declared.event.Outcome.{Outcome}
use Rattle.machine_model.specs.declared.event.Outcome.TheVariants.{Stepped, Wait, Idle, Answered, Full}
use Rattle.draw_lines.specs.declared.waits.Cause.{Cause}
use Rattle.draw_lines.specs.declared.waits.Cause.TheVariants.{Lock, Acks}
use Rattle.draw_lines.specs.declared.waits.Waited.{Waited}
use Rattle.watched.specs.Sums.{more}
use Rattle.draw_records.specs.Looking.{came, looked}
use Rattle.draw_records.specs.Recording.{Recording, advanced, is_kept, opened}
use Rattle.draw_records.specs.declared.looking.Before.{Before}
use Rattle.draw_records.specs.declared.lines.Asking.{Asking}
use Rattle.draw_records.specs.declared.spot.Last.{Last}
use Rattle.draw_records.specs.declared.spot.Last.TheVariants.{Nothing, Went, Waits}
use Rattle.draw_records.specs.declared.spot.Spot.{Spot}

-- ---- columns

-- the core whose call the event is a step of
abbrev pub caller_of : Event → Option ℕ
caller_of (Call core request) = Some core
caller_of (Go core) = Some core
caller_of (Frame core f) = Some core
caller_of (Guess core p) = Some core
caller_of (Whole core) = Some core
caller_of (GiveUp core) = Some core
caller_of _ = None

-- the event is a later step of the core's call
abbrev pub is_part : ℕ → Event → Bool
is_part core (Go other) = other == core
is_part core (Frame other f) = other == core
is_part core (Guess other p) = other == core
is_part core (Whole other) = other == core
is_part core (GiveUp other) = other == core
is_part core _ = false

-- a step has the column of the last one where both are steps of one call
abbrev pub goes_on : Last → Event → Bool
goes_on Nothing e = false
goes_on (Went core) e = is_part core e
goes_on (Waits core) e = is_part core e

-- what a step of this core's call was, once it came to this
abbrev pub last_in : Option ℕ → Outcome → Last
last_in None o = Nothing
last_in (Some core) Stepped = Went core
last_in (Some core) (Wait blocker) = Waits core
last_in (Some core) Idle = Nothing
last_in (Some core) (Answered reply) = Nothing
last_in (Some core) Full = Nothing

abbrev pub last_after : Event → Outcome → Last
last_after e o = last_in (caller_of e) o

-- the last step was one of a call that waits, and this is its next
abbrev pub is_waiting : Last → Event → Bool
is_waiting (Waits core) e = is_part core e
is_waiting Nothing e = false
is_waiting (Went core) e = false

-- a call waits that waited before, in the same column
abbrev pub waits_on : Last → Event → Outcome → Bool
waits_on last e (Wait blocker) = is_waiting last e
waits_on last e Stepped = false
waits_on last e Idle = false
waits_on last e (Answered reply) = false
waits_on last e Full = false

-- ---- what stands at columns

-- the numbers of the lines, and the waits
pub record Margins : Type 0 where
  pub heads : List ℕ
  pub waits : List Waited

abbrev pub no_margins : Margins
no_margins = record { heads = []; waits = [] }

-- one more, while there are fewer than 2,000
abbrev pub headed : Margins → ℕ → Margins
headed m number = if nat_lt (length m.heads) 2000 then record m { heads = m.heads ++ number ∷ [] } else m

abbrev pub waiting : Margins → Waited → Margins
waiting m one = if nat_lt (length m.waits) 2000 then record m { waits = m.waits ++ one ∷ [] } else m

-- ---- a recording by columns

-- What happened, where a step's number is that of its column. What stands at columns. The lines that ask for steps, the first line
-- that is shown, and how far the trace has come.
pub record Columned : Type 0 where
  pub recording : Recording
  pub margins : Margins
  pub lines : List Asking
  pub from : ℕ
  pub spot : Spot

abbrev pub no_line : Asking
no_line = record { number = 0; is_whole = false }

-- before the first step
abbrev pub nothing_columned : Recording → Margins → List Asking → ℕ → Columned
nothing_columned recording margins lines from = record {
  recording = recording;
  margins = margins;
  lines = lines;
  from = from;
  spot = record { begun = 0; present = no_line; is_within = false; is_shown = false; last = Nothing };
}

-- the next line that asks for steps has begun
abbrev pub next_line : Columned → Columned
next_line r = record r { spot = record r.spot { begun = more r.spot.begun 1; present = slice_index_or r.lines r.spot.begun no_line } }

-- what happens is recorded from the first line on that is shown
abbrev pub shown_from : Columned → Columned
shown_from r = if r.spot.is_shown || nat_lt r.spot.present.number r.from then r
    else record r { recording = opened r.recording; spot = record r.spot { is_shown = true; last = Nothing } }

-- a step is of the last line while that asks for steps, or else of the next
abbrev pub line_begun : Columned → Columned
line_begun r = if r.spot.is_within then r else shown_from (next_line r)

-- a column begins, at the line of its first step
abbrev pub next_column : Columned → ℕ → Columned
next_column r cores = record r {
  recording = advanced r.recording cores;
  margins = if r.spot.is_shown then headed r.margins r.spot.present.number else r.margins;
}

abbrev pub column_begun : Columned → Event → ℕ → Columned
column_begun r e cores = if goes_on r.spot.last e then r else next_column r cores

-- why a call waits
abbrev pub cause_of : Blocker → Cause
cause_of (By.Slot core) = Lock core
cause_of (By.Acks cores) = Acks cores

-- the core's call waits in this column, where it is shown
abbrev pub waited : Columned → Option ℕ → Blocker → Columned
waited r None blocker = r
waited r (Some core) blocker = if is_kept r.recording
    then record r { margins = waiting r.margins (record { column = r.recording.step; core = core; cause = cause_of blocker }) } else r

abbrev pub wait_noted : Columned → Event → Outcome → Columned
wait_noted r e (Wait blocker) = waited r (core_of e) blocker
wait_noted r e Stepped = r
wait_noted r e Idle = r
wait_noted r e (Answered reply) = r
wait_noted r e Full = r

-- what a recorder of steps records of it; a wait once in a column
abbrev pub noted : Columned → Before → Event → Outcome → World → Columned
noted r before e o v = if waits_on r.spot.last e o then r else wait_noted (record r { recording = came r.recording before e o v }) e o

-- it goes on
abbrev pub is_stepped : Outcome → Bool
is_stepped Stepped = true
is_stepped _ = false

abbrev pub step_ended : Columned → Event → Outcome → Columned
step_ended r e o = record r {
  spot = record r.spot { is_within = r.spot.present.is_whole && is_stepped o; last = last_after e o };
}

-- what a recorder of columns is after a step from the one state by the event to the outcome and the other state
abbrev pub columned : Columned → World → Event → Outcome → World → Columned
columned r w e o v =
    step_ended (noted (column_begun (line_begun r) e v.made.cores) (looked r.recording.told w e) e o v) e o
