use Rattle.test_parts.proofs.Tried.{trial_flushed}
use Rattle.test_parts.proofs.trial.Trial.flush.Goals as goal

pub invariant_of-self : goal.invariant_of-self
invariant_of-self g c =
    trial_flushed c.self.inside.counts c.flush-report.new.self c.new.result c.flush-report.result c.self.inside.cores
    c.self.inside.trues.items c.self.inside.fresh c.self.invariant c.flush-report.ensures.step
