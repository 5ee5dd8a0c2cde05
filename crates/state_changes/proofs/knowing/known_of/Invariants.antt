use Rattle.std.proofs.Common.{◌≡◌, ◌++◌, length}
use Rattle.std.specs.List.{flat_map}
use Rattle.trace.specs.Numbered.{texts_of}
use Rattle.trace_io.specs.Lines.{lines_of}
use Rattle.state_changes.specs.Knowing.{known_line, known_text}
use Rattle.state_changes.proofs.knowing.known_of.Given as goal

abbrev pub invariant-lines : goal.invariant-lines
invariant-lines l = l.text.items ++ flat_map (known_line l.addr l.frames.items (texts_of l.changes)) (lines_of l.rest)
    ≡ known_text l.addr (texts_of l.changes) l.state

abbrev pub decreases-lines : goal.decreases-lines
decreases-lines l = length l.rest
