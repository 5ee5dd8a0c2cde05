use Rattle.std.specs.Prelude.{false}
use Rattle.audit_text.proofs.ReviewLemmas.{text_fault}
use Rattle.audit_text.proofs.auditing_all.review_text.Goals as goal

pub returns-in-Err-clause-err : goal.returns-in-Err-clause-err
returns-in-Err-clause-err g c = text_fault c.args.terms _ c.in-Err.fault (c.in-Err.ensures.err c.args.terms)
