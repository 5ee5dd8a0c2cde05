use Rattle.std.proofs.Common.{◌≡◌, length}
use Rattle.trace_io.specs.Lines.{lines_of}
use Rattle.word_import.specs.Joined.{names_thread}
use Rattle.word_import.proofs.joined.names_thread.Given as goal

abbrev pub invariant-lines : goal.invariant-lines
invariant-lines l = names_thread (lines_of l.rest) ≡ names_thread (lines_of l.text)

abbrev pub decreases-lines : goal.decreases-lines
decreases-lines l = length l.rest
