use Rattle.live_tree.proofs.Kept.{cuts_next, held_next, keeps_next}
use Rattle.live_tree.proofs.held.Held.cut_next.Goals as goal

pub invariant_of-self : goal.invariant_of-self
invariant_of-self g c =
    held_next g.S.Stepper.stepped c.args.stepper.now c.cut_at.new.stepper c.args.core c.args.range c.self.inside.first c.self.inside.end c.in-Some.at c.self.inside.guards.items c.cut_at.new.guards.items
    c.cut_at.result c.in-Some.ensures.some c.cut_at.ensures c.self.invariant

pub returns-in-Some-clause-cuts : goal.returns-in-Some-clause-cuts
returns-in-Some-clause-cuts g c =
    cuts_next g.S.Stepper.stepped c.args.stepper.now c.cut_at.new.stepper c.args.core c.args.range c.self.inside.first c.self.inside.end c.in-Some.at c.self.inside.guards.items c.cut_at.new.guards.items
    c.cut_at.result c.args.self.now c.self.view_is c.in-Some.ensures.some c.cut_at.ensures

pub returns-in-Some-clause-pages : goal.returns-in-Some-clause-pages
returns-in-Some-clause-pages g c =
    keeps_next g.S.Stepper.stepped c.args.stepper.now c.cut_at.new.stepper c.args.core c.args.range c.self.inside.first c.self.inside.end c.in-Some.at c.self.inside.guards.items c.cut_at.new.guards.items
    c.cut_at.result c.args.self.now c.self.view_is c.in-Some.ensures.some c.cut_at.ensures
