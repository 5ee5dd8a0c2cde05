use Rattle.std.proofs.Common.{◌≡◌, [], get_or}
use Rattle.trace_io.specs.Lines.{lines_of}
use Rattle.core_text.proofs.lines.line_at.Given as goal

-- the line that is looked for is the one so many lines on
abbrev pub invariant-lines : goal.invariant-lines
invariant-lines l = get_or (lines_of l.rest) l.left [] ≡ get_or (lines_of l.text) l.number []

abbrev pub decreases-lines : goal.decreases-lines
decreases-lines l = l.left
