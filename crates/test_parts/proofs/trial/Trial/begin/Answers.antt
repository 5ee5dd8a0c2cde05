use Rattle.std.proofs.Common.{rules, ◌≡◌, ◌<◌, true, length, slice_index_or, slice_set, sym, subst, ◌∙◌}
use Rattle.test_parts.specs.Tried.{IsTrial}
use Rattle.refcache.proofs.Way.{any_default}
use Rattle.test_parts.proofs.Tried.{trial_begun}
use Rattle.test_parts.proofs.trial.Trial.begin.Goals as goal

pub invariant_of-self : goal.invariant_of-self
invariant_of-self g c =
    let p = c.self.inside.counts in
    let n = c.self.inside.cores in
    let xs = c.self.inside.trues.items in
    let at : c.args.object < length c.self.inside.trues.items = search rules in
    let fresh : c.self.inside.fresh ≡ true = search rules in
    let zero : c.index.result.now ≡ 0 = search rules in
    let some : 0 < c.args.count = search rules in
    let none : slice_index_or c.self.inside.trues.items c.args.object 0 ≡ 0 = any_default xs c.args.object 0 c.index.result.now at
    ∙ sym c.index.ensures ∙ zero in
    subst (λ b. IsTrial c.begin.new.self c.self.inside.cores (slice_set c.self.inside.trues.items c.args.object c.args.count) b) (sym fresh)
    (trial_begun p c.begin.new.self c.args.object c.args.count n xs
    (subst (λ b. IsTrial c.self.inside.counts c.self.inside.cores c.self.inside.trues.items b) fresh c.self.invariant)
    c.begin.ensures.step at none some)
