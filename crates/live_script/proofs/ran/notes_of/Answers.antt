use Rattle.std.proofs.Common.{Bor, List, arith, map, rules, subst, sym}
use Rattle.std.proofs.lemmas.Grind.{common_steps}
use Rattle.seats.specs.Tickets.{Rises}
use Rattle.seats.specs.declared.noted.Noted.{Noted}
use Rattle.seats.specs.Packing.{shown}
use Rattle.live_script.specs.Certified.{AreRising}
use Rattle.live_script.proofs.LaneLemmas.{all_more}
use Rattle.live_script.proofs.ran.notes_of.Goals as goal

pub lanes-preserved : goal.lanes-preserved
lanes-preserved g c = record {
  are = grind (arith, common_steps);
  rising = all_more AreRising shown c.push.new.self.items c.lanes.all.items c.noted-notes.result (search rules)
      c.lanes.invariant.rising (subst Rises (sym c.noted-notes.ensures.tickets) c.noted-notes.ensures.rising);
}
