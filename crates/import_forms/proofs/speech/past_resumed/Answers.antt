use Rattle.std.proofs.Common.{ap, ◌∙◌}
use Rattle.std.specs.Prelude.{codes}
use Rattle.import_forms.specs.Tokens.{stripped}
use Rattle.import_forms.proofs.speech.past_resumed.Goals as goal

pub returns : goal.returns
returns c =
    c.strip.ensures ∙ ap (λ l. stripped l c.without_gaps.result.now) c.as_slice.ensures
    ∙ ap (stripped (codes "resumed>")) c.without_gaps.ensures
