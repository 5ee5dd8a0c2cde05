use Rattle.slot_lock.proofs.Words.{◌∙◌, ap, members, refl}
use Rattle.vm_base.proofs.CoreSets.{members-empty}
use Rattle.slot_lock.proofs.Surveys.{survey_none}
use Rattle.slot_lock.proofs.survey.Survey.empty.Goals as goal

pub returns : goal.returns
returns c = λ s at.
    survey_none s at _ refl (λ core. ap (λ n. members n core) c.empty.ensures ∙ members-empty core) refl refl refl
