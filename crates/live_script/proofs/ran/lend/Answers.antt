use Rattle.std.proofs.Common.{List, arith, map, rules, subst, sym}
use Rattle.std.specs.Prelude.{All}
use Rattle.std.proofs.lemmas.Grind.{common_steps}
use Rattle.seats.specs.Fitting.{FitsTypes}
use Rattle.seats.specs.declared.noted.Noted.{Noted}
use Rattle.seats.specs.Packing.{shown}
use Rattle.live_script.proofs.LaneLemmas.{all_more}
use Rattle.live_script.proofs.ran.lend.Goals as goal

pub seats-preserved : goal.seats-preserved
seats-preserved g c = record {
  are = grind (arith, common_steps);
  typed = all_more (All FitsTypes) shown c.push.new.self.items c.seats.all.items c.notes.result (search rules)
      c.seats.invariant.typed (subst (λ (ns : List Noted). All FitsTypes ns) (sym c.notes.ensures.notes) c.notes.ensures.fits);
}
