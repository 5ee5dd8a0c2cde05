use Rattle.slot_lock.proofs.Words.{rules, subst, IsTrue}
use Rattle.slot_lock.specs.ListedSlots.{slots_of}
use Rattle.live_tree.specs.Held.{HeldView}
use Rattle.live_tree.specs.Shown.{Lends}
use Rattle.live_tree.proofs.held.Held.lent.Goals as goal

pub returns : goal.returns
returns g c =
    let all : IsTrue c.lend_all.result = search rules in
    subst (λ (h : HeldView). Lends c.args.core h (slots_of c.lend_all.new.lent.slots.items)) c.self.view_is
    (c.lend_all.ensures all c.self.inside.first c.self.inside.end c.self.invariant.1)
