use Rattle.machine_model.proofs.Words.{◌≡◌, sym, ap, ◌∙◌, rules, to}
use Rattle.machine_model.specs.declared.phase.Phase.TheVariants.{Check, Free}
use Rattle.core_steps.specs.State.{phase_at}
use Rattle.core_steps.proofs.events.Calling.{begun}
use Rattle.core_steps.proofs.engine.Engine.call.Goals as goal

pub returns-else-is_full : goal.returns-else-is_full
returns-else-is_full g c =
    let free : phase_at c.args.self.now.calls.phases.items c.args.core ≡ Free = search rules in
    begun _ _ c.args.core c.args.request _ free (sym c.if-is_full.false ∙ c.is_full.ensures)
    (c.go_to.ensures ∙ ap (to c.args.core (Check c.args.request)) c.number_call.ensures)
