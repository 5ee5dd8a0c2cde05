use Rattle.std.proofs.Common.{rules, ◌+◌}
use Rattle.live_tree.proofs.Pushed.{pushed}
use Rattle.live_tree.proofs.held.Held.push.Goals as goal

pub invariant_of-self : goal.invariant_of-self
invariant_of-self g c =
    pushed c.self.inside.first c.self.inside.end (c.first.result + c.count.result) c.self.inside.guards.items c.push.new.self.items
    c.args.guard c.self.invariant.0 c.self.invariant.1
    (search rules) (search rules) (search rules)
