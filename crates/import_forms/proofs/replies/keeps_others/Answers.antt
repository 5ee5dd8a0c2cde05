use Rattle.std.proofs.Common.{ap, ◌∙◌}
use Rattle.import_forms.specs.Said.{has_flag}
use Rattle.import_forms.proofs.replies.keeps_others.Goals as goal

pub returns : goal.returns
returns c = c.has_flag.ensures ∙ ap (λ l. has_flag l 1048576 c.args.token.now) c.as_slice.ensures
