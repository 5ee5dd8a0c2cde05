use Rattle.machine_model.proofs.Words.{refl, sym, ap, ◌∙◌, to}
use Rattle.machine_model.specs.declared.phase.Phase.TheVariants.{Release}
use Rattle.core_steps.specs.State.{world}
use Rattle.core_steps.proofs.rows.Rows.{installed}
use Rattle.core_steps.proofs.rows.Known.{install_right}
use Rattle.core_steps.proofs.engine.Engine.go_install.Goals as goal

pub show_page-requires-clause-right : goal.show_page-requires-clause-right
show_page-requires-clause-right g c =
    install_right (world g.M.SlotRead.slots c.args.self.now) c.args.core c.args.touch c.in-Some.info c.requires (sym c.page.ensures ∙ c.in-Some.is)

pub returns : goal.returns
returns g c = (
  refl,
  c.go_to.ensures ∙ (ap (to c.args.core (Release c.args.touch)) c.in_ok-show_page.ensures.ok
      ∙ installed (world g.M.SlotRead.slots c.args.self.now) c.args.core c.args.touch c.in-Some.info (sym c.page.ensures ∙ c.in-Some.is)),
)
