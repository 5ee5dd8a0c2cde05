use Rattle.overlapping.proofs.RuleLemmas.{judged_so}
use Rattle.overlapping.proofs.judging.judge.Goals as goal

pub returns : goal.returns
returns g c = λ e. judged_so c.args.files.items c.args.any_place _ _ c.args.calls.now c.args.items.now c.in_ok-auditor.ensures.any_place
    c.in_ok-auditor.ensures.plain (c.follow.ensures.yes e)
