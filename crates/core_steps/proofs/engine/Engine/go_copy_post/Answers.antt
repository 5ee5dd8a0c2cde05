use Rattle.machine_model.proofs.Words.{◌<◌, ◌≤◌, ◌^◌, ◌∙◌, after_shot, ap, are_pages, arith, page_of_touch, refl, subst, sym, to}
use Rattle.vm_base.specs.Info.{recorded_cores}
use Rattle.machine_model.specs.declared.phase.Phase.TheVariants.{CopyAcks}
use Rattle.core_steps.specs.State.{world}
use Rattle.core_steps.proofs.rows.Known.{valid_range}
use Rattle.core_steps.proofs.engine.Engine.go_copy_post.Goals as goal

pub shoot-requires-clause-here : goal.shoot-requires-clause-here
shoot-requires-clause-here g c = subst (λ n. c.args.core < n) (sym c.args.self.now.same_cores) c.requires.here

pub shoot-requires-clause-pages : goal.shoot-requires-clause-pages
shoot-requires-clause-pages g c =
    let valid = c.requires.page.valid in
    let low : 1 ≤ c.args.touch.page = valid.0 in
    let high : c.args.touch.page < 2 ^ 35 = valid.1 in
    ap are_pages c.page_of_touch.ensures
    ∙ valid_range (page_of_touch c.args.touch) (record { some = omega arith; low = low; high = omega (arith, high) })

pub shoot-requires-clause-idle : goal.shoot-requires-clause-idle
shoot-requires-clause-idle g c = c.requires.idle refl

pub go_to-requires : goal.go_to-requires
go_to-requires g c = c.requires.here

pub returns : goal.returns
returns g c =
    let w = world g.M.SlotRead.slots c.args.self.now in (
      refl,
      c.go_to.ensures ∙ ap (λ h. to c.args.core (CopyAcks c.args.touch c.args.frame) (record w { hardware = h }))
          (c.shoot.ensures.after ∙ (ap (λ r. after_shot w.hardware c.args.core c.recorded_cores-shoot.result r) c.page_of_touch.ensures
          ∙ ap (λ s. after_shot w.hardware c.args.core s (page_of_touch c.args.touch)) (c.recorded_cores-shoot.ensures.value ∙ ap recorded_cores c.page.ensures))),
    )
