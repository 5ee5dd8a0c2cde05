use Rattle.std.proofs.Common.{ap, ◌∙◌}
use Rattle.import_forms.specs.Said.{behind}
use Rattle.import_forms.proofs.speech.past_mark.Goals as goal

pub returns : goal.returns
returns c = c.behind.ensures ∙ ap (λ l. behind l c.args.line.now) c.as_slice.ensures
