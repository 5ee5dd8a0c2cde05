use Rattle.slot_lock.proofs.Words.{◌↔◌, subst, All, IsTrue}
use Rattle.live_tree.specs.Held.{CanTake, HeldView}
use Rattle.live_tree.proofs.held.Held.can_take.Goals as goal

pub returns : goal.returns
returns g c = subst (λ (h : HeldView). IsTrue c.all_can_take.result ↔ All (CanTake c.args.act) h.slots) c.self.view_is c.all_can_take.ensures
