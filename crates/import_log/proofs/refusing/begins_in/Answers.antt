use Rattle.std.proofs.Common.{◌<◌, length, arith, sym, ◌∙◌}
use Rattle.import_log.proofs.RefusingLemmas.{begins_found}
use Rattle.import_log.proofs.refusing.begins_in.Goals as goal

pub returns-then-branch : goal.returns-then-branch
returns-then-branch c =
    let all = c.args.lines.now in
    let low : c.lines.at < length all = omega (arith, c.lines-test.true, c.len.ensures) in
    begins_found all c.args.made.now c.args.process c.lines.at low c.lines.invariant.same (sym c.in_ok-begins_at.ensures ∙ c.if-branch.true)
