-- Which lines of a trace ask for steps
use Rattle.std.specs.Prelude.{ℕ, List, [], ◌∷◌, ◌++◌, Bool, true, false, Option, None, Some, option_to_list}
use Rattle.trace_text.specs.Line.{line_of}
use Rattle.trace_text.specs.declared.line.Line.{Line}
use Rattle.trace_text.specs.declared.line.Line.TheVariants.{Blank, Space, File, Act, Fold, Finish, Now}
use Rattle.watched.specs.Sums.{more}
use Rattle.draw_records.specs.declared.lines.Asking.{Asking}

-- one step, or those of a call up to the first that doesn't go on
abbrev pub asks : ℕ → Option Line → Option Asking
asks number (Some (Act core action)) = Some (record { number = number; is_whole = false })
asks number (Some (Fold page)) = Some (record { number = number; is_whole = false })
asks number (Some (Finish core)) = Some (record { number = number; is_whole = true })
asks number (Some (Now core request)) = Some (record { number = number; is_whole = true })
asks number (Some Blank) = None
asks number (Some (Space cores frames calls)) = None
asks number (Some (File n mode len seed)) = None
asks number None = None

abbrev pub asked_by : ℕ → List ℕ → Option Asking
asked_by number line = asks number (line_of line)

abbrev pub asking_lines : ℕ → List ℕ → List Asking
asking_lines number line = option_to_list (asked_by number line)

-- of lines that are numbered from here on, those that ask for steps
abbrev pub asking_from : ℕ → List (List ℕ) → List Asking
asking_from number [] = []
asking_from number (line ∷ lines) = asking_lines number line ++ asking_from (more number 1) lines
