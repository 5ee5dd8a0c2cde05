-- When a text is that of a history.
use Rattle.std.specs.Prelude.{◌≡◌, ◌≢◌, ℕ, suc, ◌+◌, ◌*◌, ◌≤◌, ◌⊎◌, ◌&&◌, nat_lt, Bool, true, false, List, [], ◌∷◌, ◌++◌, length, map, slice_get}
use Rattle.std.specs.Prelude.{Option, None, Some, get_or, is_some, option_map, replicate, set, if◌then◌else◌}
use Rattle.vm_base.specs.declared.replies.Reply.{Reply}
use Rattle.vm_base.specs.declared.replies.Reply.TheVariants.{NoMemory}
use Rattle.audit.specs.declared.auditor.Call.{Call}
use Rattle.audit_text.specs.Heard.{Declared, undeclared, with_file, with_space}
use Rattle.audit_text.specs.declared.reading.Said.{Said}
use Rattle.audit_text.specs.declared.reading.Said.TheVariants as Says
use Rattle.trace_text.specs.Line.{seeded}
use Rattle.vm_base.specs.Plain.{file_with}
use Rattle.orders.specs.declared.history.Timed.{Timed}
use Rattle.orders_text.specs.Apart.{AreApart}
use Rattle.orders_text.specs.Lines.{Tells, call_to}
use Rattle.orders_text.specs.declared.clock.PendingCall.{PendingCall}
use Rattle.orders_text.specs.declared.clock.Clock.{Clock}
use Rattle.orders_text.specs.declared.clock.Clock.TheVariants.{Unset, Stamps, Lines}
use Rattle.orders_text.specs.declared.lines.HistoryLine.{HistoryLine}
use Rattle.orders_text.specs.declared.lines.HistoryLine.TheVariants.{Part, Timed as TimedCall, Event}

-- What lines say so far: the space and its files; by which clock calls have their times; the call of each core that waits for its
-- reply; and the calls that have one, in the order of their lines, with the numbers of these lines.
pub record Read : Type 0 where
  pub declared : Declared
  pub clock : Clock
  pub waiting : List (Option PendingCall)
  pub calls : List Timed
  pub lines : List ℕ

abbrev pub unread : Read
unread = record { declared = undeclared; clock = Unset; waiting = replicate 64 None; calls = []; lines = [] }

-- ---- declarations

-- a space of 1 to 64 cores, once, and then its files by their numbers
abbrev pub part_after : Declared → Said → Option Declared
part_after d (Says.Space cores frames calls) = with_space d cores
part_after d (Says.File number mode len seed) = with_file d number (file_with mode (seeded len seed)) len
part_after d said = None

abbrev pub with_declared : Read → Declared → Read
with_declared r d = record { declared = d; clock = r.clock; waiting = r.waiting; calls = r.calls; lines = r.lines }

-- they stand in front of all calls and events
abbrev pub declared_after : Read → Clock → Said → Option Read
declared_after r Unset said = option_map (with_declared r) (part_after r.declared said)
declared_after r clock said = None

-- ---- calls with stamps

abbrev pub with_call : Clock → ℕ → Read → Timed → Read
with_call clock number r c =
    record { declared = r.declared; clock = clock; waiting = r.waiting; calls = r.calls ++ c ∷ []; lines = r.lines ++ number ∷ [] }

-- a text has stamps, or events, whose lines are the clock
abbrev pub may_stamp : Clock → Bool
may_stamp Lines = false
may_stamp clock = true

abbrev pub may_event : Clock → Bool
may_event Stamps = false
may_event clock = true

-- ---- events

-- the call of a core that waits
abbrev pub begun : Read → ℕ → Option PendingCall
begun r core = get_or r.waiting core None

abbrev pub by_lines : Read → Read
by_lines r = record { declared = r.declared; clock = Lines; waiting = r.waiting; calls = r.calls; lines = r.lines }

abbrev pub with_waiting : Read → ℕ → Option PendingCall → Read
with_waiting r core b =
    record { declared = r.declared; clock = Lines; waiting = set r.waiting core b; calls = r.calls; lines = r.lines }

-- a call that began in one line, and has its reply in another or in the same: each line has two times
abbrev pub between : ℕ → ℕ → Call → Timed
between first last call = record { begin = 2 * first; end = 2 * last + 1; call = call }

abbrev pub ended : ℕ → Read → ℕ → Reply → PendingCall → Read
ended number r core reply b =
    with_call Lines number (with_waiting r core None) (between b.line number (call_to core b.request reply))

-- after an event's line with this number
abbrev pub event_after : ℕ → Read → Said → Option Read
event_after number r (Says.Answered call) =
    if is_some (begun r call.core) then None else Some (with_call Lines number r (between number number call))
event_after number r (Says.Waits core request) =
    if is_some (begun r core) then None else Some (with_waiting r core (Some (record { line = number; request = request })))
event_after number r (Says.Ends core reply) = option_map (ended number r core reply) (begun r core)
event_after number r (Says.StillWaits core) = if is_some (begun r core) then Some (by_lines r) else None
event_after number r Says.Passes = Some (by_lines r)
event_after number r said = None

-- ---- all lines

-- after the line with this number says this; none, where it may not stand here
abbrev pub read_after : ℕ → Read → HistoryLine → Option Read
read_after number r (Part Says.Blank) = Some r
read_after number r (Part said) = declared_after r r.clock said
read_after number r (TimedCall c) =
    if r.declared.has_space && may_stamp r.clock && nat_lt c.begin c.end then Some (with_call Stamps number r c) else None
read_after number r (Event said) = if r.declared.has_space && may_event r.clock then event_after number r said else None

-- the lines, the first of which has this number, and none of which is longer than 512 bytes, lead from one to the other
abbrev pub Leads : ℕ → Read → List (List ℕ) → Read → Type 0
Leads number a [] b = b ≡ a
Leads number a (l ∷ ls) b = (told : HistoryLine) × (m : Read) × (length l ≤ 512) × Tells told l × (read_after number a told ≡ Some m)
    × Leads (suc number) m ls b

-- The lines are those of a history: a space is declared, each call begins below its end, and those of one core don't overlap.
pub record IsHistory (lines : List (List ℕ)) (r : Read) : Type 0 where
  pub leads : Leads 1 unread lines r
  pub space : r.declared.has_space ≡ true
  pub apart : AreApart r.calls

-- ---- calls that wait at the end

-- no text has a line behind this one
abbrev pub last_line : ℕ
last_line = 4611686018427387903

-- A core's call that waits ends behind all lines. It may have any reply.
abbrev pub left_open : ℕ → Option PendingCall → Reply → List Timed
left_open core None reply = []
left_open core (Some b) reply = between b.line last_line (call_to core b.request reply) ∷ []

-- those of cores from this one on, with the reply of each core
abbrev pub all_open : (ℕ → Reply) → ℕ → List (Option PendingCall) → List Timed
all_open replies core [] = []
all_open replies core (b ∷ bs) = left_open core b (replies core) ++ all_open replies (core + 1) bs

-- the calls that have a reply, and those that wait at the end with these
abbrev pub completed : (ℕ → Reply) → Read → List Timed
completed replies r = r.calls ++ all_open replies 0 r.waiting

-- a reply for each core; where the list has none, its call finds no memory, and changes nothing
abbrev pub replies_in : List Reply → ℕ → Reply
replies_in replies core = get_or replies core NoMemory
