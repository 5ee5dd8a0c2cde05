-- A log, line by line, to the calls of a process with their replies, and the text of these.
use Rattle.std.specs.Prelude.{◌≡◌, ◌<◌, ◌^◌, ℕ, zero, suc, ◌+◌, ◌-◌, ◌*◌, Bool, true, false, not, ◌&&◌, List, [], ◌∷◌, ◌++◌, Option, None, Some}
use Rattle.std.specs.Prelude.{if◌then◌else◌, ◌==◌, codes, decimal, is_some, length, min, nat_le, slice_index_or, unwrap_or}
use Rattle.std.specs.List.{flat_map}
use Rattle.trace_io.specs.Lines.{lines_of}
use Rattle.trace_text.specs.Printing.{text_of}
use Rattle.trace_text.specs.Request.{◌>>=◌}
use Rattle.vm_base.specs.declared.rights.Prot.{Prot}
use Rattle.vm_base.specs.declared.requests.Flags.{Flags}
use Rattle.vm_base.specs.declared.requests.Request.{Request}
use Rattle.vm_base.specs.declared.requests.Request.TheVariants as Asks
use Rattle.vm_base.specs.declared.replies.Reply.TheVariants as Gives
use Rattle.import_forms.specs.Said.{said_of}
use Rattle.import_forms.specs.Speech.{Spoken}
use Rattle.import_lines.specs.Joining.{speech_at}
use Rattle.import_lines.specs.LogLines.{front_left, spoken_whole}
use Rattle.import_lines.specs.Made.{all_makings, began_at}
use Rattle.import_lines.specs.Returning.{returned_at}
use Rattle.import_lines.specs.declared.made.Making.{Making}
use Rattle.import_log.specs.Imported.{chosen_all, end_of, ending_of, half_at, import_all, is_ours, speeches_of}
use Rattle.import_log.specs.declared.import.Ending.{Ending}
use Rattle.import_log.specs.declared.import.Ending.TheVariants.{Written, Nothing, Absent, Refused}
use Rattle.import_log.specs.declared.import.Refusal.TheVariants.{Broken, Untimed}
use Rattle.import_log.specs.declared.processes.Choice.{Choice}
use Rattle.import_steps.specs.Counts.{counted, no_counts}
use Rattle.import_steps.specs.Taking.{SoFar, anonymous}
use Rattle.import_steps.specs.Texts.{asked_text, first_line}
use Rattle.import_steps.specs.declared.counts.LineCounts.{LineCounts}
use Rattle.import_maps.specs.declared.steps.TraceRequest.{TraceRequest}
use Rattle.import_steps.specs.declared.taking.Fate.{Fate}
use Rattle.import_steps.specs.declared.taking.Fate.TheVariants.{Left}
use Rattle.import_steps.specs.declared.taking.Reason.{Reason}
use Rattle.import_steps.specs.declared.taking.Reason.TheVariants.{Elsewhere}
use Rattle.import_lackey.specs.Replies.{RepliedSoFar, answered, nothing_replied, said_replied}
use Rattle.word_import.specs.Times.{began_ns, took_ns}
use Rattle.word_import.specs.declared.replied.LogLine.{LogLine}
use Rattle.word_import.specs.declared.replying.ReplyClock.{ReplyClock}
use Rattle.word_import.specs.declared.replying.ReplyClock.TheVariants.{Times, Order, Lines}
use Rattle.import_lackey.specs.declared.replies.CallTimes.{CallTimes}
use Rattle.import_lackey.specs.declared.replies.Interval.{Interval}
use Rattle.import_lackey.specs.declared.replies.RepliedCall.{RepliedCall}

-- ---- when calls were made

-- a line's text
abbrev pub line_text : LogLine → List ℕ
line_text l = l.text.now

abbrev pub line_at : List (List ℕ) → ℕ → List ℕ
line_at raw k = slice_index_or raw k []

-- what lines say is said by these texts
pub record AreTexts (raw : List (List ℕ)) (all : List Spoken) : Type 0 where
  pub long : length raw ≡ length all
  pub same : (k : ℕ) → k < length all → (speech_at all k).1 ≡ (spoken_whole (line_at raw k)).1

-- a line as a time, which is a number of 64 bits: each has four, so that halves of a call have two
abbrev pub line_clock : ℕ → ℕ
line_clock n = min n (2 ^ 61) * 4

-- behind so many calls, by the lines in which a call began and ended
abbrev pub lines_between : ℕ → ℕ → ℕ → Interval
lines_between shift first last = record { begin = line_clock (shift + first); end = line_clock (shift + last) + 3 }

-- by the time before the first line's call, and by how long the call took, as the last line says
unfoldable pub times_between : List ℕ → List ℕ → Option Interval
times_between first last = do
  begin ← began_ns first
  took ← took_ns last
  Some (record { begin = begin; end = begin + took + 3 })

-- the call that returns at line k
abbrev pub times_at : List (List ℕ) → ℕ → List Spoken → ℕ → CallTimes
times_at raw shift all k = record {
  lines = lines_between shift (began_at all k) k;
  times = times_between (line_at raw (began_at all k)) (line_at raw k);
}

-- ---- a process's calls

-- after the call that returns at a line, if one does, and else why the line is left out
abbrev pub call_replied : RepliedSoFar → RepliedSoFar → ℕ → CallTimes → Reason → Option (List ℕ) → RepliedSoFar × Fate
call_replied start s thread at why None = (s, Left why)
call_replied start s thread at why (Some text) = said_replied start s thread at text (said_of text)

-- after line k, where it is of the process
abbrev pub replied_if : Bool → List (List ℕ) → RepliedSoFar → RepliedSoFar → List Spoken → ℕ → RepliedSoFar × Fate
replied_if true raw start s all k = call_replied start s (speech_at all k).0 (times_at raw (length start.calls) all k) (half_at all k) (returned_at all k)
replied_if false raw start s all k = (s, Left Elsewhere)

-- a line that met its fate, counted
abbrev pub counted_after : LineCounts → RepliedSoFar × Fate → RepliedSoFar × LineCounts
counted_after counts after = (after.0, counted counts after.1)

-- after line k
abbrev pub line_replied : List (List ℕ) → RepliedSoFar → RepliedSoFar → List Spoken → List Making → ℕ → ℕ → RepliedSoFar × Fate
line_replied raw start s all made chosen k =
    replied_if (is_ours made chosen (end_of made chosen all (length all)) (speech_at all k).0 k) raw start s all k

-- after the first n lines
abbrev pub replied : List (List ℕ) → RepliedSoFar → List Spoken → List Making → ℕ → ℕ → RepliedSoFar × LineCounts
replied raw start all made chosen zero = (start, no_counts)
replied raw start all made chosen (suc n) =
    let before = replied raw start all made chosen n in
    counted_after before.1 (line_replied raw start before.0 all made chosen n)

-- ---- what is there at the start

abbrev pub times_listed : ℕ → CallTimes
times_listed n = record { lines = lines_between 0 n n; times = Some (lines_between 0 n n) }

-- a mapping that was there, as a call of the first core
abbrev pub mapping_there : RepliedSoFar → ℕ → ℕ → Prot → Flags → RepliedSoFar
mapping_there s addr len prot flags =
    answered s 0 (times_listed (length s.calls)) (Asks.Mmap addr len prot (anonymous flags) 0 0) (Gives.Mapped addr)

-- the mappings of a list, before all calls
abbrev pub listed_replied : RepliedSoFar → Request → RepliedSoFar
listed_replied s (Asks.Mmap addr len prot flags file off) = mapping_there s addr len prot flags
listed_replied s (Asks.Munmap addr len) = s
listed_replied s (Asks.Mprotect addr len prot) = s
listed_replied s (Asks.Load addr) = s
listed_replied s (Asks.Store addr value) = s
listed_replied s (Asks.Fetch addr) = s

abbrev pub all_listed : RepliedSoFar → List TraceRequest → RepliedSoFar
all_listed s [] = s
all_listed s (t ∷ ts) = all_listed (listed_replied s t.request) ts

abbrev pub replies_at_start : SoFar → RepliedSoFar
replies_at_start taken = all_listed (nothing_replied taken.heap_end) taken.steps

-- ---- the text

-- each call has its times in nanoseconds
abbrev pub are_timed : List RepliedCall → Bool
are_timed [] = true
are_timed (c ∷ cs) = if is_some c.at.times then are_timed cs else false

-- each call stands in one line
abbrev pub are_whole : List RepliedCall → Bool
are_whole [] = true
are_whole (c ∷ cs) = if nat_le (c.at.lines.end - c.at.lines.begin) 3 then are_whole cs else false

-- by their times, where all have these; by their order, where each stands in one line; and else by their lines
abbrev pub clock_of : List RepliedCall → ReplyClock
clock_of calls = if are_timed calls then Times else if are_whole calls then Order else Lines

abbrev pub interval_text : Interval → List ℕ
interval_text i = decimal i.begin ++ codes " " ++ decimal i.end ++ codes " "

-- `BEGIN END`, but where the order says all
abbrev pub clock_text : ReplyClock → CallTimes → List ℕ
clock_text Times at = interval_text (unwrap_or at.times at.lines)
clock_text Order at = []
clock_text Lines at = interval_text at.lines

-- `BEGIN END cC! REQ = REPLY`
abbrev pub call_line : ReplyClock → RepliedCall → List ℕ
call_line clock c = clock_text clock c.at ++ codes "c" ++ decimal c.core ++ codes "! " ++ asked_text c.request ++ codes " = "
    ++ text_of c.reply ++ codes "\n"

abbrev pub replies_text : RepliedSoFar → List ℕ
replies_text s = first_line 256 (length s.threads) (length s.calls) ++ flat_map (call_line (clock_of s.calls)) s.calls

-- ---- of a log

-- a message of strace's stands within a line
abbrev pub is_broken : List (List ℕ) → Bool
is_broken [] = false
is_broken (l ∷ ls) = if length (front_left l) == 0 then is_broken ls else true

-- the calls of the chosen process, of lines that have these texts
abbrev pub replies_by_lines : List (List ℕ) → SoFar → Choice → List Spoken → RepliedSoFar × LineCounts
replies_by_lines raw start choice all =
    replied raw (replies_at_start start) all (all_makings choice.joined all) (chosen_all choice all) (length all)

-- none where a line is broken: then the lines are counted as by an import
abbrev pub replies_or_none : List (List ℕ) → SoFar → Choice → List Spoken → RepliedSoFar × LineCounts
replies_or_none raw start choice all =
    if is_broken raw then (nothing_replied None, (import_all start choice all).1) else replies_by_lines raw start choice all

-- the calls of the chosen process of a log, behind what is there at the start, and how many lines became what
abbrev pub replies_of : SoFar → Choice → List ℕ → RepliedSoFar × LineCounts
replies_of start choice input = replies_or_none (lines_of input) start choice (speeches_of input)

-- how it ends whose import ends so: a log with a broken line is refused, and one that comes late, of several files and without times
abbrev pub ending_replied : Bool → Bool → Ending → Ending
ending_replied broken late Written = if broken then Refused Broken else if late then Refused Untimed else Written
ending_replied broken late Nothing = Nothing
ending_replied broken late Absent = Absent
ending_replied broken late (Refused refusal) = Refused refusal

abbrev pub is_timed : ReplyClock → Bool
is_timed Times = true
is_timed Order = false
is_timed Lines = false

abbrev pub is_late : Bool → RepliedSoFar → Bool
is_late several s = several && not (is_timed (clock_of s.calls))

abbrev pub replies_ending : SoFar → Choice → Bool → List ℕ → Ending
replies_ending start choice several input =
    ending_replied (is_broken (lines_of input)) (is_late several (replies_of start choice input).0) (ending_of start choice input)

-- the text, where there is one
abbrev pub replies_by : Ending → RepliedSoFar → List ℕ
replies_by Written s = replies_text s
replies_by Nothing s = []
replies_by Absent s = []
replies_by (Refused refusal) s = []

abbrev pub replies_made : SoFar → Choice → Bool → List ℕ → List ℕ
replies_made start choice several input = replies_by (replies_ending start choice several input) (replies_of start choice input).0
