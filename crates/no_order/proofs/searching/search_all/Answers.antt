use Rattle.std.proofs.Common.{◌∙◌}
use Rattle.std.proofs.lemmas.Result.{IfOk-weaker}
use Rattle.vm_base.specs.Plain.{nothing_mapped}
use Rattle.frames.specs.Given.{given_files}
use Rattle.audit.specs.Placing.{rule_of}
use Rattle.no_order.proofs.Fronts.{of_all}
use Rattle.no_order.proofs.searching.search_all.Goals as goal

pub returns : goal.returns
returns g c = IfOk-weaker c.search_behind.result _ _
    (λ answer told. of_all (rule_of c.args.any_place) (nothing_mapped (given_files c.args.files.now)) c.args.history.now c.as_slice.result.now answer
    (c.as_slice.ensures.value ∙ c.new-items.ensures.items) told) c.search_behind.ensures
