use Rattle.notes_text.proofs.FitsLemmas.{named_fits, notes_declare, scripts_declare}
use Rattle.notes_text.proofs.ShortLines.{lines_are_short}
use Rattle.notes_text.proofs.grammar.texts_fit.Goals as goal

pub returns-clause-named : goal.returns-clause-named
returns-clause-named c = named_fits

pub returns-clause-declared : goal.returns-clause-declared
returns-clause-declared c = notes_declare

pub returns-clause-script : goal.returns-clause-script
returns-clause-script c = scripts_declare

pub returns-clause-short : goal.returns-clause-short
returns-clause-short c = lines_are_short
