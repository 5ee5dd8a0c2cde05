use Rattle.std.proofs.Common.{Some, ap, ◌∙◌}
use Rattle.orders.proofs.Lists.{get_here}
use Rattle.overlapping.proofs.judging.place_of.Goals as goal

pub returns-then-other-line : goal.returns-then-other-line
returns-then-other-line c = get_here c.args.lines.now c.lines.at 0 c.lines-test.true ∙ ap Some c.if-other-line.true
