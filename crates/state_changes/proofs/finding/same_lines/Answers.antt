use Rattle.std.proofs.Common.{arith, length, refl, ◌≡◌, ◌-◌, ap, ◌∙◌}
use Rattle.std.proofs.lemmas.List.{length-drop}
use Rattle.state_changes.proofs.Parts.{same_more}
use Rattle.state_changes.proofs.finding.same_lines.Goals as goal

pub lines-preserved : goal.lines-preserved
lines-preserved c =
    let old : length c.split_at.result.1.now ≡ length c.args.old.now - c.lines.at = ap length c.split_at.ensures.back ∙ length-drop c.lines.at c.args.old.now in
    let new : length c.split_at-in-lines.result.1.now ≡ length c.args.new.now - c.lines.at =
    ap length c.split_at-in-lines.ensures.back ∙ length-drop c.lines.at c.args.new.now in
    record {
      old = omega (arith, old, c.same_line-count.ensures.old, c.lines.invariant.old);
      new = omega (arith, new, c.same_line-count.ensures.new, c.lines.invariant.new);
      same = same_more c.lines.at c.same_line-count.result _ c.args.old.now c.args.new.now _ _ c.split_at.ensures.back c.split_at-in-lines.ensures.back refl
          c.same_line-count.ensures.same c.lines.invariant.same;
    }
