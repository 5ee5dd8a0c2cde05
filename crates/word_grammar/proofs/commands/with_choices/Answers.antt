use Rattle.std.proofs.Common.{◌∙◌}
use Rattle.word_grammar.proofs.commands.with_choices.Goals as goal

pub choices-preserved : goal.choices-preserved
choices-preserved c = c.in_ok-command.ensures.names.0 ∙ c.choices.invariant
