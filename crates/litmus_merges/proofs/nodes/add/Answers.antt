use Rattle.std.proofs.Common.{subst}
use Rattle.litmus_merges.specs.Nodes.{HasAlike}
use Rattle.litmus_merges.proofs.Grown.{pushed_alike}
use Rattle.litmus_merges.proofs.nodes.add.Goals as goal

pub returns-then-has_alike-clause-added : goal.returns-then-has_alike-clause-added
returns-then-has_alike-clause-added g c = λ e.
    subst (λ xs. HasAlike xs c.args.node) c.as_slice.ensures.value (c.has_alike.ensures c.if-has_alike.true)

pub returns-clause-added : goal.returns-clause-added
returns-clause-added g c = λ e. pushed_alike c.args.nodes.now.items c.push.new.self.items c.args.node c.in_ok-push.ensures.items
