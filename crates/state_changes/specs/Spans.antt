-- How many steps a line makes
use Rattle.std.specs.Prelude.{ℕ, suc, List, [], ◌∷◌, Option, None, Some, min, length, if◌then◌else◌}
use Rattle.core_steps.specs.Finishing.{finish_limit}
use Rattle.trace_text.specs.Line.{line_of}
use Rattle.trace_text.specs.declared.line.Line.{Line}
use Rattle.trace_text.specs.declared.line.Line.TheVariants.{Blank, Space, File, Act, Fold, Finish, Now}
use Rattle.state_changes.specs.Recorded.{MomentOf}

-- up to the first behind which the call doesn't go on, or all
abbrev pub steps_to_end : List MomentOf → ℕ
steps_to_end [] = 0
steps_to_end (m ∷ ms) = if m.goes_on then suc (steps_to_end ms) else 1

-- a call that begins is finished
abbrev pub call_len : List MomentOf → ℕ
call_len [] = 0
call_len (m ∷ ms) = if m.goes_on then suc (min (steps_to_end ms) finish_limit) else 1

-- by what the line says
abbrev pub count_of : Option Line → List MomentOf → ℕ
count_of None ms = 0
count_of (Some Blank) ms = 0
count_of (Some (Space cores frames calls)) ms = 0
count_of (Some (File n mode len seed)) ms = 0
count_of (Some (Act core action)) ms = min (length ms) 1
count_of (Some (Fold page)) ms = min (length ms) 1
count_of (Some (Finish core)) ms = min (steps_to_end ms) finish_limit
count_of (Some (Now core request)) ms = call_len ms

abbrev pub span_of : List ℕ → List MomentOf → ℕ
span_of line ms = count_of (line_of line) ms
