use Rattle.test_parts.proofs.Tried.{trial_reviewed}
use Rattle.test_parts.proofs.trial.Trial.review.Goals as goal

pub invariant_of-self : goal.invariant_of-self
invariant_of-self g c =
    trial_reviewed c.self.inside.counts c.review-report.new.self c.new.result c.review-report.result c.self.inside.cores
    c.self.inside.trues.items c.self.inside.fresh c.self.invariant c.review-report.ensures.step
