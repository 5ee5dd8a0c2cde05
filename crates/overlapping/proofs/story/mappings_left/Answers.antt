use Rattle.std.proofs.Common.{ap, subst, ◌∙◌}
use Rattle.std.specs.Prelude.{IfNone, IfSome}
use Rattle.vm_base.specs.Plain.{nothing_mapped}
use Rattle.audit.specs.Auditor.{plain_of}
use Rattle.audit.specs.Placing.{rule_of}
use Rattle.overlapping.specs.Story.{AreWrong, HasMappings}
use Rattle.overlapping.proofs.story.mappings_left.Goals as goal

pub returns : goal.returns
returns g c =
    let found = c.in_ok-mappings.mappings in
    let first = c.args.first.now in
    let plain = c.in_ok-auditor.ensures.plain ∙ ap nothing_mapped c.in_ok-again.ensures.same in
    record {
      mapped = subst (λ t. IfSome found (λ ms. HasMappings (rule_of c.args.any_place) t first ms.items)) plain
          (subst (λ b. IfSome found (λ ms. HasMappings (rule_of b) (plain_of c.in_ok-auditor.auditor) first ms.items))
          c.in_ok-auditor.ensures.any_place c.in_ok-mappings.ensures.mapped);
      wrong = subst (λ t. IfNone found (AreWrong (rule_of c.args.any_place) t first)) plain
          (subst (λ b. IfNone found (AreWrong (rule_of b) (plain_of c.in_ok-auditor.auditor) first))
          c.in_ok-auditor.ensures.any_place c.in_ok-mappings.ensures.wrong);
    }
