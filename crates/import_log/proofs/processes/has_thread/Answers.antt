use Rattle.std.proofs.Common.{◌<◌, length, arith, sym, ◌∙◌, eq-eqb}
use Rattle.import_lines.proofs.JoinLemmas.{ne-eqb}
use Rattle.import_log.proofs.ProcessLemmas.{there_here, there_more}
use Rattle.import_log.proofs.processes.has_thread.Goals as goal

pub returns-then-thread : goal.returns-then-thread
returns-then-thread c =
    let all = c.args.lines.now in
    let low : c.lines.at < length all = omega (arith, c.lines-test.true, c.len.ensures) in
    sym (sym c.lines.invariant.same ∙ there_here _ all _ low (eq-eqb _ _ (sym c.thread.ensures ∙ c.if-thread.true)))

pub lines-preserved : goal.lines-preserved
lines-preserved c =
    let all = c.args.lines.now in
    let low : c.lines.at < length all = omega (arith, c.lines-test.true, c.len.ensures) in
    record {
      within = omega (arith, low);
      same = there_more _ all _ low (ne-eqb _ _ (λ e. c.if-thread.false (c.thread.ensures ∙ e))) ∙ c.lines.invariant.same;
    }
