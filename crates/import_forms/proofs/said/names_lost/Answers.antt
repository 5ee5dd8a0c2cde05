use Rattle.std.proofs.Common.{◌≡◌, true, refl, sym, ap, ◌∙◌}
use Rattle.std.specs.Prelude.{codes}
use Rattle.import_forms.specs.Tokens.{occurs}
use Rattle.import_forms.proofs.said.names_lost.Goals as goal

pub returns-then-has : goal.returns-then-has
returns-then-has c =
    let token = c.args.token.now in
    let yes : occurs (codes "MAP_HUGETLB") token ≡ true = sym (c.has.ensures ∙ ap (λ l. occurs l token) c.as_slice.ensures) ∙ c.if-has.true in
    rw yes refl
