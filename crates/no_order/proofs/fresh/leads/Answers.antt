use Rattle.std.proofs.Common.{◌∙◌, ap, sym}
use Rattle.vm_base.specs.Plain.{nothing_mapped}
use Rattle.audit.specs.Auditor.{plain_of}
use Rattle.no_order.proofs.Fronts.{led_so}
use Rattle.no_order.proofs.fresh.leads.Goals as goal

pub returns-clause-yes : goal.returns-clause-yes
returns-clause-yes g c = λ e. (
  plain_of c.lead_all.new.auditor,
  led_so c.args.any_place _ _ _ _ c.args.history.now c.args.items.now c.in_ok-auditor.ensures.any_place
      (c.in_ok-auditor.ensures.plain ∙ ap nothing_mapped c.in_ok-files.ensures.same) (c.lead_all.ensures.yes e),
)

pub returns-clause-no : goal.returns-clause-no
returns-clause-no g c = λ e u led.
    c.lead_all.ensures.no e u (led_so _ c.args.any_place _ _ u c.args.history.now c.args.items.now (sym c.in_ok-auditor.ensures.any_place)
    (sym (c.in_ok-auditor.ensures.plain ∙ ap nothing_mapped c.in_ok-files.ensures.same)) led)
