use Rattle.std.proofs.Common.{◌≡◌, ◌++◌}
use Rattle.draw_steps.specs.Texts.{first_texts}
use Rattle.draw_steps.proofs.texts.put_first.Given as goal

abbrev pub invariant-texts : goal.invariant-texts
invariant-texts g l = l.out.items ≡ l.initial.out.items ++ first_texts (g.S.Series.text l.series) l.at
