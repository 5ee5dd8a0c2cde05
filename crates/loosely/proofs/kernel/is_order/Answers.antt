use Rattle.std.proofs.Common.{◌∙◌, ap}
use Rattle.vm_base.specs.Plain.{nothing_mapped}
use Rattle.loosely.proofs.KernelLemmas.{order_found}
use Rattle.loosely.proofs.kernel.is_order.Goals as goal

pub returns : goal.returns
returns g c = λ e. order_found c.args.any_place _ c.args.moving _ _ c.args.calls.now c.args.moves.now
    c.in_ok-auditor.ensures.any_place (c.in_ok-auditor.ensures.plain ∙ ap nothing_mapped c.in_ok-again.ensures.same) (c.obey.ensures e)
