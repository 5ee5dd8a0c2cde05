use Rattle.std.proofs.Common.{◌≡◌, ◌+◌, ◌-◌, None, drop, arith, sym, subst, eq-eqb}
use Rattle.import_forms.specs.Tokens.{split_at_last}
use Rattle.import_forms.proofs.TokenLemmas.{split_found}
use Rattle.import_forms.proofs.tokens.split_last.Goals as goal

pub returns-then-bytes-end : goal.returns-then-bytes-end
returns-then-bytes-end c =
    let same : c.bytes.end - 1 + 1 ≡ c.bytes.end = omega (arith, c.bytes-test.true) in
    let none : split_at_last c.args.mark (drop (c.bytes.end - 1 + 1) c.args.bytes.now) ≡ None =
    subst (λ k. split_at_last c.args.mark (drop k c.args.bytes.now) ≡ None) (sym same) c.bytes.invariant.none in
    rw (c.split_at.ensures.front, c.split_at-then-bytes-end.ensures.back)
    (sym (split_found _ _ _ (omega (arith, c.bytes-test.true, c.bytes.invariant.within)) (eq-eqb _ _ c.if-bytes-end.true) none))
