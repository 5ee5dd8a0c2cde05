use Rattle.std.proofs.Common.{rules, ◌≡◌, ◌<◌, ◌+◌, false, length, slice_index_or, slice_set, sym, subst, ◌∙◌}
use Rattle.test_parts.specs.Tried.{IsTrial}
use Rattle.refcache.proofs.Way.{any_default}
use Rattle.test_parts.proofs.Tried.{trial_up}
use Rattle.test_parts.proofs.trial.Trial.inc.Goals as goal

pub invariant_of-self : goal.invariant_of-self
invariant_of-self g c =
    let xs = c.self.inside.trues.items in
    let at : c.args.object < length c.self.inside.trues.items = search rules in
    let same : slice_index_or c.self.inside.trues.items c.args.object 0 ≡ c.index-count.result.now =
    any_default xs c.args.object 0 c.index-count.result.now at ∙ sym c.index-count.ensures in
    subst (λ k. IsTrial c.inc.new.self c.self.inside.cores (slice_set c.self.inside.trues.items c.args.object (k + 1)) false) same
    (trial_up c.self.inside.counts c.inc.new.self c.new.result c.args.object c.self.inside.cores xs c.self.inside.fresh c.self.invariant c.inc.ensures.step at)
