-- The calls that notes answer
use Rattle.std.specs.Prelude.{ℕ, ◌<◌, List, [], ◌∷◌, ◌++◌, Option, None, Some, is_some, if◌then◌else◌}
use Rattle.std.specs.List.{flat_map}
use Rattle.machine_model.specs.declared.event.Event.{Event}
use Rattle.machine_model.specs.declared.event.Event.TheVariants.{Call}
use Rattle.machine_model.specs.declared.event.Outcome.{Outcome}
use Rattle.machine_model.specs.declared.event.Outcome.TheVariants.{Stepped, Answered}
use Rattle.seats.specs.declared.noted.Noted.{Noted}
use Rattle.orders.specs.declared.history.Timed.{Timed}
use Rattle.live_script.specs.declared.calls.Invocation.{Invocation}
use Rattle.live_script.specs.declared.calls.Response.{Response}

-- the call that begins by this event, if it could
abbrev pub begun_by : Event → Outcome → Option Invocation
begun_by (Call core request) Stepped = Some (record { core = core; request = request })
begun_by event outcome = None

-- the call that begins at a note
abbrev pub begun_at : Noted → Option Invocation
begun_at note = begun_by note.event note.outcome

-- the answer of a note, if it has one
abbrev pub ended_at : ℕ → Outcome → Option Response
ended_at ticket (Answered reply) = Some (record { ticket = ticket; reply = reply })
ended_at ticket outcome = None

abbrev pub first_of : Option Response → Option Response → Option Response
first_of None other = other
first_of (Some ended) other = Some ended

-- the first answer of these notes of a core, before another call of it begins
abbrev pub first_answer : List Noted → Option Response
first_answer [] = None
first_answer (n ∷ ns) = if is_some (begun_at n) then None else first_of (ended_at n.ticket n.outcome) (first_answer ns)

-- a call from its beginning to its answer
abbrev pub timed : ℕ → Option Invocation → Option Response → List Timed
timed ticket (Some begun) (Some ended) = record {
  begin = ticket;
  end = ended.ticket;
  call = record { core = begun.core; request = begun.request; reply = ended.reply };
} ∷ []
timed ticket begun ended = []

-- the answered calls of a core's notes, in order of their beginnings: each call that begins, with the first answer behind it
abbrev pub calls_of : List Noted → List Timed
calls_of [] = []
calls_of (n ∷ ns) = timed n.ticket (begun_at n) (first_answer ns) ++ calls_of ns

-- those of all cores, one core after another
abbrev pub history_of : List (List Noted) → List Timed
history_of seats = flat_map calls_of seats

-- a call is answered after it begins
abbrev pub EndsLater : Timed → Type 0
EndsLater c = c.begin < c.end
