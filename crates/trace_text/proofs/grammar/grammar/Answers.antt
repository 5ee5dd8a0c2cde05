use Rattle.trace_text.proofs.LineLemmas.{said_is_read, read_is_said}
use Rattle.trace_text.proofs.PrintableLemmas.{read_is_printable}
use Rattle.trace_text.proofs.SpellingLemmas.{reads_printed}
use Rattle.trace_text.proofs.grammar.grammar.Goals as goal

pub returns-clause-all : goal.returns-clause-all
returns-clause-all c = said_is_read

pub returns-clause-only : goal.returns-clause-only
returns-clause-only c = read_is_said

pub returns-clause-printable : goal.returns-clause-printable
returns-clause-printable c = read_is_printable

pub returns-clause-printed : goal.returns-clause-printed
returns-clause-printed c = reads_printed
