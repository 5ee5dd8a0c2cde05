use Rattle.machine_model.proofs.Words.{ap, sym, ◌∙◌, members, members-empty}
use Rattle.core_steps.proofs.engine.cores.Cores.awaited.Goals as goal

pub returns-in-Some-clause-some : goal.returns-in-Some-clause-some
returns-in-Some-clause-some g c = record {
  some = (c.in-Some.field-0, sym (ap (λ f. f c.in-Some.field-0) c.waiting-waiting.ensures) ∙ c.in-Some.ensures.member);
  exact = c.waiting-waiting.ensures;
}

pub returns-in-None-clause-none : goal.returns-in-None-clause-none
returns-in-None-clause-none g c = λ d.
    sym (ap (λ f. f d) c.waiting-waiting.ensures) ∙ (ap (λ s. members s d) c.in-None.ensures.none ∙ members-empty d)
