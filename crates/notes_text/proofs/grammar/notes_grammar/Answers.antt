use Rattle.notes_text.proofs.NoteLemmas.{reads_all, reads_only, notes_one}
use Rattle.notes_text.proofs.grammar.notes_grammar.Goals as goal

pub returns-clause-all : goal.returns-clause-all
returns-clause-all c = reads_all

pub returns-clause-only : goal.returns-clause-only
returns-clause-only c = reads_only

pub returns-clause-one : goal.returns-clause-one
returns-clause-one c = notes_one
