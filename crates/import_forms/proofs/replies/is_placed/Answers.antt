use Rattle.std.proofs.Common.{ap, ◌∙◌}
use Rattle.import_forms.specs.Said.{has_flag}
use Rattle.import_forms.proofs.replies.is_placed.Goals as goal

pub returns : goal.returns
returns c = c.has_flag.ensures ∙ ap (λ l. has_flag l 16 c.args.token.now) c.as_slice.ensures
