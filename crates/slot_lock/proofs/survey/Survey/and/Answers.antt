use Rattle.slot_lock.proofs.Words.{◌≡◌, ◌||◌, ap, ◌∙◌, refl}
use Rattle.slot_lock.proofs.Surveys.{either_true, either_false, survey_both}
use Rattle.slot_lock.proofs.survey.Survey.and.Goals.{else-self, else-self-2, else-self-3, then-self, then-self-2, then-self-3}
use Rattle.slot_lock.proofs.survey.Survey.and.Goals as goal

pub returns : goal.returns
returns c =
    let gap : c.if-self.result ≡ (c.args.self.gap || c.args.next.gap) = elim c.if-self.branch [
      | then-self w ↦ w.result-is ∙ either_true _ _ w.if-self.true
      | else-self w ↦ w.result-is ∙ either_false _ _ w.if-self.false
    ] in
    let framed : c.if-self-2.result ≡ (c.args.self.framed || c.args.next.framed) = elim c.if-self-2.branch [
      | then-self-2 w ↦ w.result-is ∙ either_true _ _ w.if-self-2.true
      | else-self-2 w ↦ w.result-is ∙ either_false _ _ w.if-self-2.false
    ] in
    let shared : c.if-self-3.result ≡ (c.args.self.shared || c.args.next.shared) = elim c.if-self-3.branch [
      | then-self-3 w ↦ w.result-is ∙ either_true _ _ w.if-self-3.true
      | else-self-3 w ↦ w.result-is ∙ either_false _ _ w.if-self-3.false
    ] in
    λ s first middle end low high h k.
    survey_both s first middle end c.args.self c.args.next _ low high refl (λ core. ap (λ f. f core) c.union.ensures) gap framed shared h k
