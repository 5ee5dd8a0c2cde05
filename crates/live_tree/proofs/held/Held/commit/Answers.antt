use Rattle.slot_lock.proofs.Words.{◌<◌, ◌≤◌, map, ap, sym, subst, ◌∙◌, All}
use Rattle.slot_lock.specs.Plan.{range_of}
use Rattle.live_tree.specs.Guards.{slot_of}
use Rattle.slot_lock.specs.Changes.{changed}
use Rattle.live_tree.specs.Held.{CrossesNoEdge, HeldView}
use Rattle.live_tree.specs.Shown.{shown}
use Rattle.live_tree.proofs.Committed.{still_side_by_side}
use Rattle.live_tree.proofs.Pages.{pages_committed}
use Rattle.live_tree.proofs.held.Held.commit.Goals as goal

pub invariant_of-self : goal.invariant_of-self
invariant_of-self g c = (
  c.commit_all.ensures.some,
  rw c.commit_all.ensures.slots (still_side_by_side c.args.ticket c.args.change c.self.inside.first c.self.inside.end
      (map slot_of c.self.inside.guards.items) c.self.invariant.1),
)

pub returns-clause-pages : goal.returns-clause-pages
returns-clause-pages g c p low high =
    let all = map slot_of c.self.inside.guards.items in
    let edges : All (CrossesNoEdge (range_of c.args.change)) all = subst
    (λ (h : HeldView). All (CrossesNoEdge (range_of c.args.change)) h.slots) (sym c.self.view_is) c.requires.edges in
    let from : c.self.inside.first ≤ p = subst (λ (h : HeldView). h.first ≤ p) (sym c.self.view_is) low in
    let until : p < c.self.inside.end = subst (λ (h : HeldView). p < h.end) (sym c.self.view_is) high in
    ap (λ ss. (shown ss).info p) c.commit_all.ensures.slots
    ∙ (pages_committed c.args.ticket c.args.change c.self.inside.first c.self.inside.end all c.self.invariant.1 edges p from until
    ∙ ap (λ (h : HeldView). (changed (shown h.slots) c.args.change).info p) c.self.view_is)
