use Rattle.std.proofs.Common.{◌∙◌}
use Rattle.std.proofs.Common.{rules, arith, ap, refl}
use Rattle.seats.specs.Notes.{SeatView}
use Rattle.seats.proofs.Growing.{grew_steps}
use Rattle.live_tree.proofs.Kept.{alike_keeps, keeps_trans}
use Rattle.live_space.proofs.Noted.{goes_before, goes_then, goes_trans, grew_set_page}
use Rattle.live_space.proofs.Places.{alike_count, alike_edges}
use Rattle.live_space.proofs.in_call.InCall.put.Goals as goal

pub commit_slots-requires : goal.commit_slots-requires
commit_slots-requires g c = (
  omega arith,
  (
    record {
      pages = c.requires.sound.pages;
      covers = search rules;
      edges = alike_edges c.args.range _ _ c.reserve.ensures.same (c.cut_all.ensures.edges (search rules));
      room = search rules;
      files = c.requires.sound.fits;
    },
    omega (
      arith,
      alike_count _ _ c.reserve.ensures.same,
      c.cut_all.ensures.room (search rules),
      ap (λ (s : SeatView). s.room) c.step-fits.ensures,
    ),
  ),
)

pub returns-clause-goes : goal.returns-clause-goes
returns-clause-goes g c = goes_then _ _ _ (goes_trans _ _ _ c.cut_all.ensures.goes
    (goes_before _ _ _ c.commit_slots.ensures.goes refl (grew_steps _ _ _ c.step-fits.ensures))) refl (grew_set_page _ _ _ c.set_next_page.ensures)

pub returns-clause-made : goal.returns-clause-made
returns-clause-made g c = record {
  ready = c.reserve.new.self;
  first = c.reserve.ensures.place.0 ∙ c.cut_all.ensures.place.0;
  end = c.reserve.ensures.place.1 ∙ c.cut_all.ensures.place.1;
  pages = keeps_trans c.args.self.now.held c.cut_all.new.self.held c.reserve.new.self c.cut_all.ensures.pages
      (alike_keeps c.cut_all.new.self.held c.reserve.new.self c.reserve.ensures.same);
  noted = c.commit_slots.new.self.seat.now;
  made = c.commit_slots.ensures.made;
  next = c.set_next_page.ensures;
}
