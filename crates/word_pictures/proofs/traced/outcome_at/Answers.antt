use Rattle.std.proofs.Common.{◌≡◌, ◌+◌, false, eqb, codes, drop, arith, ap, sym, ◌∙◌}
use Rattle.std.specs.List.{starts_with}
use Rattle.word_pictures.proofs.TracedLines.{passed}
use Rattle.word_pictures.proofs.traced.outcome_at.Goals as goal

pub bytes-preserved : goal.bytes-preserved
bytes-preserved c =
    let none : starts_with eqb (drop c.bytes.at c.args.line.now) (codes " = ") ≡ false =
    ap (λ l. starts_with eqb l (codes " = ")) (sym c.split_at.ensures.back) ∙ (sym c.begins_outcome.ensures ∙ c.if-begins_outcome.false) in
    record {
      within = omega (arith, c.bytes-test.true);
      same = passed c.args.line.now _ c.bytes.at (c.bytes.at + 1) (omega arith) c.bytes-test.true none c.bytes.invariant.same;
    }
