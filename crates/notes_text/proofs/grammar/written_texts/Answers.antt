use Rattle.notes_text.proofs.TextOnce.{said_is_not_refused, says_one}
use Rattle.notes_text.proofs.TextWritten.{written_is_said}
use Rattle.notes_text.proofs.grammar.written_texts.Goals as goal

pub returns-clause-written : goal.returns-clause-written
returns-clause-written c = written_is_said

pub returns-clause-one : goal.returns-clause-one
returns-clause-one c = says_one

pub returns-clause-read : goal.returns-clause-read
returns-clause-read c = said_is_not_refused
