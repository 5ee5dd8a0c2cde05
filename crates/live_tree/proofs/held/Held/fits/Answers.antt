use Rattle.slot_lock.proofs.Words.{rules, map, subst, sym, All}
use Rattle.live_tree.specs.Guards.{slot_of}
use Rattle.live_tree.specs.Held.{CrossesNoEdge, HeldView}
use Rattle.live_tree.proofs.Cuts.{not_all_fit}
use Rattle.live_tree.proofs.held.Held.fits.Goals as goal

pub returns-in-Some : goal.returns-in-Some
returns-in-Some g c = (
  λ t. search rules,
  λ all. absurd (not_all_fit c.args.range (map slot_of c.self.inside.guards.items) c.in-Some.field-0 c.in-Some.ensures.some
      (subst (λ (h : HeldView). All (CrossesNoEdge c.args.range) h.slots) (sym c.self.view_is) all)),
)
