use Rattle.std.proofs.Common.{refl}
use Rattle.trace_io.proofs.LineLemmas.{reads_none, found_line, found_long}
use Rattle.trace_io.proofs.lines.LineReader.next_line.Goals as goal

pub returns-in-Line-clause-found : goal.returns-in-Line-clause-found
returns-in-Line-clause-found g c = reads_none _ _ (λ xs. found_line xs _ _ _ refl c.in-Line.ensures.found)

pub returns-in-TooLong-clause-found : goal.returns-in-TooLong-clause-found
returns-in-TooLong-clause-found g c = reads_none _ _ (λ xs. found_long xs _ _ _ refl c.in-TooLong.ensures.found)

pub returns-in-Ok-clause-found : goal.returns-in-Ok-clause-found
returns-in-Ok-clause-found g c = rw c.in-Nothing.ensures.found.0 at c.in-Ok.ensures.found
