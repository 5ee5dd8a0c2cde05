use Rattle.std.proofs.Common.{◌<◌, length, arith, sym, ap, ◌∙◌, eq-eqb}
use Rattle.import_forms.specs.Speech.{returned_of}
use Rattle.import_lines.proofs.JoinLemmas.{next_here, next_more, ne-eqb}
use Rattle.import_lines.proofs.joining.next_of.Goals as goal

pub returns-then-thread : goal.returns-then-thread
returns-then-thread c =
    let all = c.args.lines.now in
    let low : c.later.at < length all = omega (arith, c.later-test.true, c.later.invariant.count) in
    c.half_text.ensures.returned
    ∙ ap returned_of (next_here _ all _ low (eq-eqb _ _ (sym c.thread.ensures ∙ c.if-thread.true)) ∙ c.later.invariant.same)

pub later-preserved : goal.later-preserved
later-preserved c =
    let all = c.args.lines.now in
    let low : c.later.at < length all = omega (arith, c.later-test.true, c.later.invariant.count) in
    record {
      within = omega (arith, low);
      count = c.later.invariant.count;
      same = next_more _ all _ low (ne-eqb _ _ (λ e. c.if-thread.false (c.thread.ensures ∙ e))) ∙ c.later.invariant.same;
    }
