use Rattle.std.proofs.Common.{rules, refl, ap, ◌∙◌}
use Rattle.live_tree.specs.Held.{HeldView}
use Rattle.live_tree.specs.Shown.{shown}
use Rattle.live_space.proofs.Noted.{end_cut, first_cut, goes_then, goes_trans, grew_cuts}
use Rattle.live_space.proofs.in_call.InCall.cut_all.Goals as goal

pub cuts-preserved : goal.cuts-preserved
cuts-preserved g c = record {
  goes = goes_then _ _ _ (goes_trans _ _ _ c.cuts.invariant.goes c.has_room.ensures.goes) refl (grew_cuts _ _ _ _ _ _ _ c.cut_next.ensures.cuts);
  first = first_cut _ _ _ _ _ _ _ c.cut_next.ensures.cuts ∙ (ap (λ (v : HeldView). v.first) c.has_room.ensures.held ∙ c.cuts.invariant.first);
  end = end_cut _ _ _ _ _ _ _ c.cut_next.ensures.cuts ∙ (ap (λ (v : HeldView). v.end) c.has_room.ensures.held ∙ c.cuts.invariant.end);
  pages = λ p. c.cut_next.ensures.pages p ∙ (ap (λ (v : HeldView). (shown v.slots).info p) c.has_room.ensures.held ∙ c.cuts.invariant.pages p);
}

pub returns-in-Unseen : goal.returns-in-Unseen
returns-in-Unseen g c = record {
  goes = goes_then _ _ _ (goes_trans _ _ _ c.cuts.invariant.goes c.has_room.ensures.goes) refl (grew_cuts _ _ _ _ _ _ _ c.cut_next.ensures.cuts);
  place = (
    first_cut _ _ _ _ _ _ _ c.cut_next.ensures.cuts ∙ (ap (λ (v : HeldView). v.first) c.has_room.ensures.held ∙ c.cuts.invariant.first),
    end_cut _ _ _ _ _ _ _ c.cut_next.ensures.cuts ∙ (ap (λ (v : HeldView). v.end) c.has_room.ensures.held ∙ c.cuts.invariant.end),
  );
  pages = λ p. c.cut_next.ensures.pages p ∙ (ap (λ (v : HeldView). (shown v.slots).info p) c.has_room.ensures.held ∙ c.cuts.invariant.pages p);
  room = search rules;
  edges = search rules;
}
