use Rattle.std.proofs.Common.{sym, subst, ◌∙◌}
use Rattle.seats.specs.Gathered.{AreAll}
use Rattle.live_script.proofs.LaneLemmas.{begun_lanes}
use Rattle.live_script.proofs.running.begin.Goals as goal

pub returns-clause-begun : goal.returns-clause-begun
returns-clause-begun g c =
    begun_lanes _ _ c.in-Ok-setup.setup _ _ _ c.declaration-declaration.ensures (sym c.fault.ensures ∙ c.in_default.is) c.in-Ok-setup.ensures.made
    c.in-Ok-new.ensures.made c.in-Ok-lanes_of.ensures

pub invariant_of-result : goal.invariant_of-result
invariant_of-result g c = subst (λ ss. AreAll c.in-Ok-new.made.0.word ss) (sym c.in-Ok-lanes_of.ensures) c.in-Ok-new.ensures.made.all
