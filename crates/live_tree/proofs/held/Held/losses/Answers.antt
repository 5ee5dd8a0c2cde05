use Rattle.slot_lock.proofs.Words.{rules, subst, sym, IsTrue}
use Rattle.live_tree.specs.Held.{Covers, HeldView}
use Rattle.live_tree.specs.Losing.{AreLost}
use Rattle.live_tree.specs.Shown.{shown}
use Rattle.live_tree.proofs.held.Held.losses.Goals as goal

pub returns : goal.returns
returns g c =
    let all : IsTrue c.lose_all.result = search rules in
    let covers = subst (λ (h : HeldView). Covers h c.args.range) (sym c.self.view_is) c.requires in
    subst (λ (h : HeldView). AreLost (shown h.slots) c.args.range c.lose_all.new.lost.cores c.lose_all.new.lost.frames.items) c.self.view_is
    (c.lose_all.ensures all c.self.inside.first c.self.inside.end c.self.invariant.1 covers.0 covers.1)
