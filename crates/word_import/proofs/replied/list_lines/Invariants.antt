use Rattle.std.proofs.Common.{◌≡◌, ◌++◌, length, map}
use Rattle.trace_io.specs.Lines.{lines_of}
use Rattle.word_import.specs.Replied.{line_text}
use Rattle.word_import.proofs.replied.list_lines.Given as goal

-- those that were read, and then those of the rest
abbrev pub invariant-lines : goal.invariant-lines
invariant-lines l = map line_text l.all.items ++ lines_of l.rest ≡ lines_of l.log

abbrev pub decreases-lines : goal.decreases-lines
decreases-lines l = length l.rest
