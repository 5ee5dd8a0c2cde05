use Rattle.std.proofs.Common.{rules}
use Rattle.audit_text.proofs.SaidLemmas.{line_none, line_some, shown_none, shown_some}
use Rattle.audit_text.proofs.reading.read_said.Goals as goal

pub returns-in-Some-clause-some : goal.returns-in-Some-clause-some
returns-in-Some-clause-some c = shown_some _ c.args.line.now c.in-Some.said c.in-Some.ensures.some c.if_printable.ensures

pub returns-in-Some-clause-none : goal.returns-in-Some-clause-none
returns-in-Some-clause-none c = shown_none _ c.args.line.now c.in-Some.said c.if_printable.ensures

pub returns-clause-some : goal.returns-clause-some
returns-clause-some c = line_some _ _ (search rules) c.read_plain.ensures

pub returns-clause-none : goal.returns-clause-none
returns-clause-none c = line_none _ _ (c.in_default.ensures {u = tt}).none c.read_plain.ensures
