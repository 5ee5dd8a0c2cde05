use Rattle.std.proofs.Common.{◌<◌, arith, sym, ◌∙◌, eq-eqb}
use Rattle.import_lines.proofs.JoinLemmas.{ne-eqb}
use Rattle.import_log.proofs.OwnedLemmas.{goes_other, goes_root}
use Rattle.import_log.proofs.owned.goes_on.Goals as goal

pub lines-preserved-else-ends_before : goal.lines-preserved-else-ends_before
lines-preserved-else-ends_before c =
    let some : 0 < c.lines.at = omega (arith, c.lines-test.true) in
    record {
      within = omega (arith, c.lines.invariant.within);
      same = goes_root c.args.root c.args.lines.now c.lines.later c.ends_before.result c.lines.at some c.ends_before.ensures c.if-ends_before.false
          (eq-eqb _ _ (sym c.thread.ensures ∙ c.if-thread-root.true)) ∙ c.lines.invariant.same;
    }

pub lines-preserved : goal.lines-preserved
lines-preserved c =
    let some : 0 < c.lines.at = omega (arith, c.lines-test.true) in
    record {
      within = omega (arith, c.lines.invariant.within);
      same = goes_other c.args.root c.args.lines.now c.lines.later c.loose_from-later.result c.lines.at some c.loose_from-later.ensures
          (ne-eqb _ _ (λ e. c.if-thread-root.false (c.thread.ensures ∙ e))) ∙ c.lines.invariant.same;
    }
