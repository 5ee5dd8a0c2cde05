use Rattle.machine_model.proofs.Words.{◌<◌, ◌∙◌, after_shot, ap, are_pages, refl, subst, sym, to}
use Rattle.slot_lock.specs.declared.plan.Goal.TheVariants as To
use Rattle.machine_model.specs.declared.phase.Phase.TheVariants.{Acks}
use Rattle.core_steps.specs.State.{world}
use Rattle.core_steps.proofs.rows.Known.{change_pages}
use Rattle.core_steps.proofs.engine.Engine.go_post.Goals as goal

pub shoot-requires-clause-here : goal.shoot-requires-clause-here
shoot-requires-clause-here g c = subst (λ n. c.args.core < n) (sym c.args.self.now.same_cores) c.requires.here

pub shoot-requires-clause-pages : goal.shoot-requires-clause-pages
shoot-requires-clause-pages g c = ap are_pages c.range.ensures ∙ change_pages c.args.change c.requires.goal

pub shoot-requires-clause-idle : goal.shoot-requires-clause-idle
shoot-requires-clause-idle g c = c.requires.idle refl

pub go_to-requires : goal.go_to-requires
go_to-requires g c = c.requires.here

pub returns : goal.returns
returns g c =
    let w = world g.M.SlotRead.slots c.args.self.now in (
      refl,
      c.go_to.ensures ∙ ap (λ h. to c.args.core (Acks (To.Change c.args.change) c.args.change) (record w { hardware = h }))
          (c.shoot.ensures.after ∙ ap (λ r. after_shot w.hardware c.args.core c.args.shoot r) c.range.ensures),
    )
