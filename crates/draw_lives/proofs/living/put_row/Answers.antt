use Rattle.std.proofs.Common.{arith, ◌≤◌, length}
use Rattle.std.proofs.lemmas.Grind.{common_steps}
use Rattle.draw_lives.proofs.Lived.{row_ends, row_is_full}
use Rattle.draw_lives.proofs.living.put_row.Goals as goal

pub returns-else-len-le2000 : goal.returns-else-len-le2000
returns-else-len-le2000 c =
    let full : 2001 ≤ length c.moments.lives.items = grind (arith, common_steps, c.len.ensures, c.if-len-le2000.false) in
    row_is_full c.args.moments.now c.args.row c.args.pages c.moments.at c.args.lives.now.items c.moments.lives.items c.moments.invariant.room full
    c.moments.invariant.made

pub returns-after-moments : goal.returns-after-moments
returns-after-moments c =
    row_ends c.args.moments.now c.args.row c.args.pages c.moments.at c.args.lives.now.items c.moments.lives.items c.moments-test.false
    c.moments.invariant.room c.moments.invariant.made
