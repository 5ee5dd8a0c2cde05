use Rattle.std.proofs.Common.{◌∙◌, sym}
use Rattle.audit.specs.Auditor.{plain_of}
use Rattle.audit.proofs.Served.{served}
use Rattle.audit.proofs.auditor.Auditor.would_serve.Goals as goal

pub returns : goal.returns
returns g c =
    let told = c.is_served.ensures c.args.self.now.frames in
    let exact = served (plain_of c.args.self.now) c.args.request in
    ((λ h. exact.0 (sym told ∙ h)), (λ s. told ∙ exact.1 s))
