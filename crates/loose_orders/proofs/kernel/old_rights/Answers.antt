use Rattle.loose_orders.proofs.MoveLemmas.{had_rights}
use Rattle.loose_orders.proofs.kernel.old_rights.Goals as goal

pub returns-in-Some : goal.returns-in-Some
returns-in-Some c = λ old all. had_rights old c.args.of c.args.page c.in-Some.one c.rights_of.result (c.in-Some.ensures.kept old all) c.in-Some.ensures.call
    c.in-Some.ensures.page c.rights_of.ensures
