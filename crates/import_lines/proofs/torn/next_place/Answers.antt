use Rattle.std.proofs.Common.{◌<◌, length, arith, sym, ◌∙◌, eq-eqb}
use Rattle.import_lines.proofs.JoinLemmas.{ne-eqb}
use Rattle.import_lines.proofs.TornLemmas.{text_here, text_more}
use Rattle.import_lines.proofs.torn.next_place.Goals as goal

pub returns-then-thread-clause-text : goal.returns-then-thread-clause-text
returns-then-thread-clause-text c =
    let all = c.args.lines.now in
    let low : c.later.at < length all = omega (arith, c.later-test.true, c.later.invariant.count) in
    sym (sym c.later.invariant.same ∙ text_here _ all _ low (eq-eqb _ _ (sym c.thread.ensures ∙ c.if-thread.true)))

pub later-preserved : goal.later-preserved
later-preserved c =
    let all = c.args.lines.now in
    let low : c.later.at < length all = omega (arith, c.later-test.true, c.later.invariant.count) in
    record {
      within = omega (arith, low);
      count = c.later.invariant.count;
      same = text_more _ all _ low (ne-eqb _ _ (λ e. c.if-thread.false (c.thread.ensures ∙ e))) ∙ c.later.invariant.same;
    }
