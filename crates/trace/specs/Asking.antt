-- Where the calls that cores began last were asked for
use Rattle.std.specs.Prelude.{◌≡◌, ℕ, suc, Bool, true, cond, not, ◌||◌, List, [], ◌∷◌, ◌++◌, codes, decimal}
use Rattle.std.specs.Prelude.{Option, None, Some, replicate, slice_index_or, slice_set}
use Rattle.std.specs.Str.{bytes_eq}
use Rattle.vm_base.specs.declared.requests.Request.{Request}
use Rattle.trace_words.specs.Written.{request_words, spaced}
use Rattle.trace_text.specs.Line.{line_of}
use Rattle.trace_text.specs.Printing.{full_text, idle_text}
use Rattle.trace_text.specs.declared.action.Action.TheVariants.{Call}
use Rattle.trace_text.specs.declared.line.Line.{Line}
use Rattle.trace_text.specs.declared.line.Line.TheVariants.{Act, Finish, Now}
use Rattle.trace.specs.declared.asking.AskedAt.{AskedAt}
use Rattle.trace.specs.declared.asking.Asks.{Asks}

-- ---- a line

-- the call that a line asks for
abbrev pub call_asked : Option Line → Option Request
call_asked (Some (Act core (Call request))) = Some request
call_asked (Some (Now core request)) = Some request
call_asked said = None

-- the core whose line it is
abbrev pub line_core : Option Line → Option ℕ
line_core (Some (Act core action)) = Some core
line_core (Some (Finish core)) = Some core
line_core (Some (Now core request)) = Some core
line_core said = None

-- a call that is asked for begins, unless its core has another, or no call may begin any more
abbrev pub begins_call : List ℕ → Bool
begins_call text = not (bytes_eq text idle_text || bytes_eq text full_text)

-- ---- all lines so far

-- where the core's call was asked for, if one began at this line
abbrev pub with_call : Option ℕ → Option Request → Bool → ℕ → List (Option AskedAt) → List (Option AskedAt)
with_call (Some core) (Some request) true line calls = slice_set calls core (Some (record { line = line; request = request }))
with_call core request begins line calls = calls

-- before the first line
abbrev pub nothing_asked : Bool → Asks
nothing_asked wanted = record { is_wanted = wanted; line = 0; calls = replicate 64 None; core = None }

-- at the next line
abbrev pub at_next : Asks → Asks
at_next asks = record asks { line = suc asks.line }

-- the line says this and gave this text; nothing is looked for where it isn't wanted
abbrev pub asks_after : Asks → List ℕ → List ℕ → Asks
asks_after asks line text = record asks {
  calls = cond asks.is_wanted (with_call (line_core (line_of line)) (call_asked (line_of line)) (begins_call text) asks.line asks.calls) asks.calls;
  core = cond asks.is_wanted (line_core (line_of line)) asks.core;
}

-- what one line makes of them; of several nothing is said
abbrev pub NotesLine : Asks → Asks → List (List ℕ) → List ℕ → Type 0
NotesLine one other [] text = (other ≡ one) × (text ≡ [])
NotesLine one other (line ∷ []) text = other ≡ asks_after one line text
NotesLine one other (line ∷ next ∷ lines) text = Unit {0}

-- ---- what is told of them

-- ` (line N: cC REQ)`: the line that asked for the call, its core and the request
abbrev pub asked_text : ℕ → Option AskedAt → List ℕ
asked_text core None = []
asked_text core (Some asked) =
    codes " (line " ++ decimal asked.line ++ codes ": c" ++ decimal core ++ spaced (request_words asked.request) ++ codes ")"

abbrev pub call_of_core : Option ℕ → List (Option AskedAt) → List ℕ
call_of_core None calls = []
call_of_core (Some core) calls = asked_text core (slice_index_or calls core None)

-- the call that the last line's core has, or had at that line
abbrev pub whose_text : Asks → List ℕ
whose_text asks = call_of_core asks.core asks.calls
