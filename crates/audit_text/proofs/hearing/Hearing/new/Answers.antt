use Rattle.std.proofs.Common.{rules, ap, arith, length}
use Rattle.audit_text.proofs.HeardLemmas.{nothing_heard, same_terms}
use Rattle.audit_text.proofs.hearing.Hearing.new.Goals as goal

pub returns-clause-heard : goal.returns-clause-heard
returns-clause-heard g c = nothing_heard _ _ c.in-Ok-none_waits.ensures (search rules)

pub returns-clause-plain : goal.returns-clause-plain
returns-clause-plain g c = c.in-Ok-new.ensures.plain

pub returns-clause-terms : goal.returns-clause-terms
returns-clause-terms g c = same_terms c.args.terms _ c.in-Ok-new.ensures.any_place

pub returns-clause-counted : goal.returns-clause-counted
returns-clause-counted g c = record { places = ap length c.in-Ok-none_waits.ensures; lacking = omega arith }
