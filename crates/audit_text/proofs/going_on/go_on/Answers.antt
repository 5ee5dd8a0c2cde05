use Rattle.std.proofs.Common.{◌≡◌, ◌∙◌, ap, Ok, false}
use Rattle.audit.specs.Auditor.{plain_of}
use Rattle.audit_text.specs.Steps.{terms_of}
use Rattle.audit_text.proofs.ReviewLemmas.{not_there}
use Rattle.audit_text.proofs.going_on.go_on.Goals as goal

pub go_due-requires : goal.go_due-requires
go_due-requires g c =
    let e : c.go_there.result ≡ Ok false = c.in-Ok-false.is ∙ ap Ok c.in-Ok-false.field-0-test in
    not_there (terms_of c.go_there.new.hearing) (terms_of c.args.hearing.now) (plain_of c.go_there.new.hearing.auditor)
    (plain_of c.args.hearing.now.auditor) c.args.call.now c.go_there.ensures.terms (c.go_there.ensures.same e) (c.go_there.ensures.no e)
