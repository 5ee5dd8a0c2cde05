use Rattle.std.proofs.Common.{ap, ◌∙◌}
use Rattle.import_forms.specs.Said.{makes_with}
use Rattle.import_forms.proofs.making.is_thread.Goals as goal

pub returns : goal.returns
returns c = c.makes_with.ensures ∙ ap (λ l. makes_with l 65536 c.args.before.now) c.as_slice.ensures
