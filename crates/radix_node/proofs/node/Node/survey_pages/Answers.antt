use Rattle.slot_lock.proofs.Words.{◌≡◌, ◌-◌, not, is_some, refl, sym, ap, ◌∙◌, subst, arith}
use Rattle.vm_base.proofs.CoreSets.{members-empty}
use Rattle.slot_lock.specs.declared.survey.Survey.{Survey}
use Rattle.slot_lock.specs.Slots.{between}
use Rattle.slot_lock.specs.Surveys.{IsSurvey}
use Rattle.slot_lock.proofs.Surveys.{survey_none}
use Rattle.radix_node.specs.Run.{width_of}
use Rattle.radix_node.specs.Node.{Parts, flatten}
use Rattle.radix_node.specs.Slots.{parts_of}
use Rattle.radix_node.specs.Survey.{slots_in}
use Rattle.radix_node.proofs.Surveys.{page_surveyed}
use Rattle.radix_node.proofs.node.Node.survey_pages.Goals as goal

pub pages-init : goal.pages-init
pages-init g c = record {
  low = omega arith;
  high = omega (arith, c.requires.some);
  slots = refl;
  survey = survey_none _ c.args.first _ (omega arith) (λ core. rw c.empty-cores.ensures (members-empty core)) refl refl refl;
}

pub pages-preserved : goal.pages-preserved
pages-preserved g c =
    let one : Survey = record {
      slots = 1;
      cores = c.cores.result;
      gap = not c.is_mapped.result;
      framed = c.is_some-framed.result;
      shared = c.is_shared-shared.result;
    } in
    page_surveyed _ c.in-Own.state c.args.first c.args.end _ one _ (ap (λ (v : Parts). v.level) c.self.view_is ∙ c.requires.level) c.self.invariant
    c.pages-test.true c.requires.within (sym c.in-Own.is ∙ c.index.ensures) (record {
      free = c.is_free_for.ensures c.if-not-is_free_for.false;
      slots = refl;
      cores = c.cores.ensures;
      gap = ap not c.is_mapped.ensures;
      framed = c.is_some-framed.ensures ∙ ap is_some c.frame.ensures;
      shared = c.is_shared-shared.ensures;
    }) refl (λ core. ap (λ f. f core) c.union-cores.ensures) refl refl refl c.pages.invariant

pub returns : goal.returns
returns g c =
    let h = c.pages.invariant in
    let done : c.pages.k ≡ c.args.end = omega (arith, c.pages-test.false, h.high) in
    let rs = slots_in (flatten (width_of c.self.inside.level) (parts_of c.self.inside.slots.items)) in
    rw (← c.self.view_is) (subst (λ n. IsSurvey rs (between c.args.first n) (record {
      slots = n - c.args.first;
      cores = c.pages.cores;
      gap = c.pages.gap;
      framed = c.pages.framed;
      shared = c.pages.shared;
    })) done h.survey)
