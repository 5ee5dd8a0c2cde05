use Rattle.std.proofs.lemmas.Result.{IfErr-weaker, IfOk-weaker}
use Rattle.certifier.proofs.OneRun.{refusals_exact}
use Rattle.certifier.proofs.certifying.certify.Goals as goal

pub returns-clause-plain : goal.returns-clause-plain
returns-clause-plain g c = IfOk-weaker c.certify_standing.result _ _ (λ done h. h.plain) c.certify_standing.ensures.ok

pub returns-clause-exact : goal.returns-clause-exact
returns-clause-exact g c = IfErr-weaker c.certify_standing.result _ _ (λ fault h. refusals_exact c.args.setup _ _ fault h) c.certify_standing.ensures.err
