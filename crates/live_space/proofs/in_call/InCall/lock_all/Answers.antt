use Rattle.std.proofs.Common.{◌≤◌, refl, sym, ap, subst, ◌∙◌}
use Rattle.live_tree.specs.Held.{HeldView}
use Rattle.live_space.proofs.Noted.{end_acquired, first_acquired, goes_then, goes_trans, grew_acquires}
use Rattle.live_space.proofs.in_call.InCall.lock_all.Goals as goal

pub slots-preserved-in-Locked : goal.slots-preserved-in-Locked
slots-preserved-in-Locked g c = record {
  goes = goes_then _ _ _ (goes_trans _ _ _ c.slots.invariant.goes c.has_room.ensures.goes) refl (grew_acquires _ _ _ _ _ _ _ _ c.lock_next.ensures);
  first = first_acquired _ _ _ _ _ _ _ _ c.lock_next.ensures ∙ (ap (λ (v : HeldView). v.first) c.has_room.ensures.held ∙ c.slots.invariant.first);
  within = λ le. end_acquired _ _ _ _ _ _ _ _ c.lock_next.ensures
      (subst (λ (v : HeldView). v.end ≤ c.args.end) (sym c.has_room.ensures.held) (c.slots.invariant.within le));
  space = c.has_room.ensures.space ∙ c.slots.invariant.space;
}

pub returns-in-Unseen-clause-goes : goal.returns-in-Unseen-clause-goes
returns-in-Unseen-clause-goes g c =
    goes_then _ _ _ (goes_trans _ _ _ c.slots.invariant.goes c.has_room.ensures.goes) refl (grew_acquires _ _ _ _ _ _ _ _ c.lock_next.ensures)
