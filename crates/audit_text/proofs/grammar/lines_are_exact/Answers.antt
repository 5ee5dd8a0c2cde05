use Rattle.audit_text.proofs.EchoLemmas.{answers_are_said, ends_are_said}
use Rattle.audit_text.proofs.OneReading.{lines_say_one}
use Rattle.audit_text.proofs.grammar.lines_are_exact.Goals as goal

pub returns-clause-one : goal.returns-clause-one
returns-clause-one c = lines_say_one

pub returns-clause-answered : goal.returns-clause-answered
returns-clause-answered c = answers_are_said

pub returns-clause-ended : goal.returns-clause-ended
returns-clause-ended c = ends_are_said
