use Rattle.test_parts.proofs.Tried.{trial_open}
use Rattle.test_parts.proofs.trial.Trial.new.Goals as goal

pub invariant_of-result : goal.invariant_of-result
invariant_of-result g c =
    trial_open c.in_ok-counts.counts c.args.cores c.args.objects c.in_ok-trues.trues.items c.requires.cores.1 c.in_ok-counts.ensures
    c.in_ok-trues.ensures.count c.in_ok-trues.ensures.zero
