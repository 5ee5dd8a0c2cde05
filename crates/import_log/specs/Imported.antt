-- A log, line by line, to what is taken of it.
use Rattle.std.specs.Prelude.{ℕ, zero, suc, ◌+◌, Bool, true, false, not, ◌&&◌, ◌||◌, List, [], ◌∷◌, Option, None, Some, if◌then◌else◌, ◌==◌, drop}
use Rattle.std.specs.Prelude.{is_some, length, nat_lt, take}
use Rattle.trace_io.specs.Lines.{lines_of}
use Rattle.import_steps.specs.Counts.{counted, no_counts}
use Rattle.import_lines.specs.LogLines.{first_unread, spoken_from}
use Rattle.import_lines.specs.Joining.{call_at, next_of, returns_by, speech_at}
use Rattle.import_lines.specs.Made.{all_makings, maker_of, past_of, process_of, said_at, shares_any, space_of, starts, thread_at}
use Rattle.import_lines.specs.Torn.{is_torn}
use Rattle.import_log.specs.Owned.{has_numbered, is_unclear, owned}
use Rattle.import_log.specs.Processes.{chosen, is_there, processes}
use Rattle.import_forms.specs.Said.{file_named, is_known, said_of}
use Rattle.import_forms.specs.Speech.{Spoken, begun_of, returned_of}
use Rattle.import_steps.specs.Taking.{SoFar, after_said}
use Rattle.import_steps.specs.declared.counts.LineCounts.{LineCounts}
use Rattle.import_log.specs.declared.import.Ending.{Ending}
use Rattle.import_log.specs.declared.import.Ending.TheVariants.{Written, Nothing, Absent, Refused}
use Rattle.import_log.specs.declared.import.Refusal.{Refusal}
use Rattle.import_log.specs.declared.import.Refusal.TheVariants.{Unstarted, Stray, Torn, Unnumbered, Unfollowed}
use Rattle.import_log.specs.declared.processes.Choice.{Choice}
use Rattle.import_log.specs.declared.processes.Process.{Process}
use Rattle.import_lines.specs.declared.made.Making.{Making}
use Rattle.import_steps.specs.declared.taking.Fate.{Fate}
use Rattle.import_steps.specs.declared.taking.Fate.TheVariants.{Left}
use Rattle.import_steps.specs.declared.taking.Reason.{Reason}
use Rattle.import_steps.specs.declared.taking.Reason.TheVariants.{Elsewhere, Half, Unread}

-- why a line is left out that a call began with, and at which it doesn't act: the call's other half does, if there is one
abbrev pub half_begun : List ℕ → List ℕ → Reason
half_begun front later = if returns_by front (returned_of later) then Half else if is_known front then Unread else Half

abbrev pub half_of : List ℕ → Option (List ℕ) → Reason
half_of later None = Half
half_of later (Some front) = half_begun front later

-- why line k is left out, if no call acts at it
abbrev pub half_at : List Spoken → ℕ → Reason
half_at all k =
    let s = speech_at all k in
    half_of (next_of s.0 (drop (k + 1) all)) (begun_of s.1)

-- after the call that acts at a line of this thread, if one does, and else why the line is left out
abbrev pub call_taken : SoFar → SoFar → ℕ → Reason → Option (List ℕ) → SoFar × Fate
call_taken start s thread why None = (s, Left why)
call_taken start s thread why (Some text) = after_said start s thread (file_named text) (said_of text)

-- behind the last of the first n lines that is of a thread of the process, 0 where none is
abbrev pub end_of : List Making → ℕ → List Spoken → ℕ → ℕ
end_of made chosen all zero = 0
end_of made chosen all (suc n) = if process_of made (thread_at all n) == chosen then suc n else end_of made chosen all n

-- Line k is about the process that was chosen: its thread's calls change there the address space that the process has at that line, or,
-- before it was made, had from its maker. The process has none from its end on.
abbrev pub is_ours : List Making → ℕ → ℕ → ℕ → ℕ → Bool
is_ours made chosen end thread k = if nat_lt k end then space_of made k (process_of made thread) == past_of made k chosen else false

-- after line k, where it is of the process: what was taken, and what became of the line
abbrev pub taken_if : Bool → SoFar → SoFar → List Spoken → ℕ → SoFar × Fate
taken_if true start s all k = call_taken start s (speech_at all k).0 (half_at all k) (call_at all k)
taken_if false start s all k = (s, Left Elsewhere)

-- after line k
abbrev pub line_taken : SoFar → SoFar → List Spoken → List Making → ℕ → ℕ → SoFar × Fate
line_taken start s all made chosen k =
    taken_if (is_ours made chosen (end_of made chosen all (length all)) (speech_at all k).0 k) start s all k

-- a line that met its fate, counted
abbrev pub counted_with : LineCounts → SoFar × Fate → SoFar × LineCounts
counted_with counts after = (after.0, counted counts after.1)

-- after the first n lines, from what is there at the start
abbrev pub imported : SoFar → List Spoken → List Making → ℕ → ℕ → SoFar × LineCounts
imported start all made chosen zero = (start, no_counts)
imported start all made chosen (suc n) =
    let before = imported start all made chosen n in
    counted_with before.1 (line_taken start before.0 all made chosen n)

-- the processes of all lines
abbrev pub processes_all : Bool → List Spoken → List Process
processes_all joined all = processes all (all_makings joined all) (length all)

-- the process that is chosen
abbrev pub chosen_all : Choice → List Spoken → ℕ
chosen_all choice all = chosen choice.thread (all_makings choice.joined all) (processes_all choice.joined all)

-- All lines, for the chosen process. Its lines are those of its threads, and before it was made those of its parent, whose address
-- space it got then.
abbrev pub import_all : SoFar → Choice → List Spoken → SoFar × LineCounts
import_all start choice all =
    let made = all_makings choice.joined all in
    imported start all made (chosen_all choice all) (length all)

-- ---- what is refused

-- the process begins a program at one of the first n lines
abbrev pub begins_in : List Spoken → List Making → ℕ → ℕ → Bool
begins_in all made process zero = false
begins_in all made process (suc n) = if begins_in all made process n then true
    else (process_of made (thread_at all n) == process) && starts (said_at all n)

-- Another process than the chosen one asks for something, and no line says who made it or begins its program. It may be a thread of the
-- chosen one.
abbrev pub is_stray : List Spoken → List Making → ℕ → Process → Bool
is_stray all made chosen p = if (p.requests == 0) || (p.number == chosen) then false
    else if is_some (maker_of made p.number) then false
    else not (begins_in all made p.number (length all))

abbrev pub stray_of : List Spoken → List Making → ℕ → List Process → Option ℕ
stray_of all made chosen [] = None
stray_of all made chosen (p ∷ ps) = if is_stray all made chosen p then Some p.number else stray_of all made chosen ps

abbrev pub stray_all : Choice → List Spoken → Option ℕ
stray_all choice all = stray_of all (all_makings choice.joined all) (chosen_all choice all) (processes_all choice.joined all)

-- with what the process began is known: from a list, or since a program begins
abbrev pub is_known_start : ℕ → ℕ → Bool
is_known_start before begins = not ((before == 0) && (begins == 0))

abbrev pub start_refused : Option ℕ → Bool → Option Refusal
start_refused (Some number) known = Some (Stray number)
start_refused None known = if known then None else Some Unstarted

-- no line names a thread, though one was made that has the same address space: its calls aren't in the log
abbrev pub is_unfollowed : List Spoken → List Making → Bool
is_unfollowed all made = if has_numbered all (length all) then false else shares_any made

-- why a log is refused, if it is
abbrev pub refusal_by : Bool → Bool → Bool → Bool → Option ℕ → Bool → Option Refusal
refusal_by torn unclear alone empty stray known = if torn then Some Torn
    else if unclear then Some Unnumbered
    else if alone then Some Unfollowed
    else if empty then None
    else start_refused stray known

-- some process asks for something
abbrev pub asked_any : List Process → Bool
asked_any [] = false
asked_any (p ∷ ps) = if p.requests == 0 then asked_any ps else true

abbrev pub ending_from : Option Refusal → ℕ → Ending
ending_from (Some refusal) steps = Refused refusal
ending_from None steps = if steps == 0 then Nothing else Written

-- no trace comes of a log that has no line about the thread that was named, of one in which nothing is asked for, or that is refused, or
-- where no request would be in the trace
abbrev pub ending_by : Option Refusal → Bool → Bool → ℕ → Ending
ending_by refusal there asked steps = if there then (if asked then ending_from refusal steps else Nothing) else Absent

-- why the lines are refused, if they are
abbrev pub refusal_all : Bool → SoFar → Choice → List Spoken → Option Refusal
refusal_all unclear start choice all = refusal_by (is_torn all (length all)) unclear
    (is_unfollowed all (all_makings choice.joined all)) choice.from_empty (stray_all choice all)
    (is_known_start (length start.steps) (import_all start choice all).1.begins)

abbrev pub ending_all : Bool → SoFar → Choice → List Spoken → Ending
ending_all unclear start choice all = ending_by (refusal_all unclear start choice all) (is_there choice.thread all)
    (asked_any (processes_all choice.joined all)) (length (import_all start choice all).0.steps)

-- ---- of a log

-- what its lines say, each of its thread
abbrev pub speeches_of : List ℕ → List Spoken
speeches_of log = owned (spoken_from [] (lines_of log))

-- it can't be told of which
abbrev pub is_unclear_in : List ℕ → Bool
is_unclear_in log = is_unclear (spoken_from [] (lines_of log))

-- what is taken of a log, beside what is there at the start, and how many of its lines became what
abbrev pub import_of : SoFar → Choice → List ℕ → SoFar × LineCounts
import_of start choice log = import_all start choice (speeches_of log)

-- how an import of it ends
abbrev pub ending_of : SoFar → Choice → List ℕ → Ending
ending_of start choice log = ending_all (is_unclear_in log) start choice (speeches_of log)

-- its processes
abbrev pub processes_of : Bool → List ℕ → List Process
processes_of joined log = processes_all joined (speeches_of log)

-- the process that is chosen
abbrev pub process_in : Choice → List ℕ → ℕ
process_in choice log = chosen_all choice (speeches_of log)

-- the first 80 bytes of the first line that isn't read, where an import ended without a trace
abbrev pub unread_shown : Ending → List ℕ → List ℕ
unread_shown Written line = []
unread_shown Nothing line = line
unread_shown Absent line = line
unread_shown (Refused refusal) line = line

abbrev pub unread_for : Ending → List ℕ → List ℕ
unread_for ending log = unread_shown ending (take 80 (first_unread (lines_of log)))

abbrev pub unread_of : SoFar → Choice → List ℕ → List ℕ
unread_of start choice log = unread_for (ending_of start choice log) log
