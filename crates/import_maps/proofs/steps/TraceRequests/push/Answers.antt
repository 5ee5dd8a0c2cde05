use Rattle.std.proofs.Common.{rules}
use Rattle.import_maps.proofs.KeptLemmas.{kept_pushed}
use Rattle.import_maps.proofs.steps.TraceRequests.push.Goals as goal

pub invariant_of-self-in-Ok : goal.invariant_of-self-in-Ok
invariant_of-self-in-Ok c = kept_pushed _ _ _ _ _ c.args.step _ _ c.self.invariant (search rules) (search rules)
