use Rattle.std.proofs.Common.{ℕ, Bool, ap, ◌∙◌}
use Rattle.draw_records.proofs.looking.awaits.Goals as goal

pub returns : goal.returns
returns g c = c.contains.ensures ∙ ap (λ (f : ℕ → Bool). f c.args.core) c.awaited.ensures
