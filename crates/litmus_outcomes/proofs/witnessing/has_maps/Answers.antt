-- has_maps
use Rattle.std.proofs.Common.{◌∙◌, subst, sym}
use Rattle.core_steps.specs.Machine.{state}
use Rattle.core_steps.specs.MapLines.{ListsMaps}
use Rattle.litmus_outcomes.specs.Outcomes.{HasMaps}
use Rattle.litmus_outcomes.proofs.witnessing.has_maps.Goals as goal

pub returns-then-not-maps : goal.returns-then-not-maps
returns-then-not-maps g c = λ e.
    subst (λ b. HasMaps b (state c.args.machine.now) c.args.lines.now) (sym c.if-not-maps.true) (λ u leads. c.are_same_maps.ensures.0 e)

pub returns : goal.returns
returns g c = λ e. subst (λ b. HasMaps b (state c.args.machine.now) c.args.lines.now) (sym c.if-not-maps.false)
    (subst (ListsMaps (state c.args.machine.now)) (sym c.as_slice.ensures.value ∙ c.are_same_maps-2.ensures.0 e) c.in_ok-all.ensures.lines)
