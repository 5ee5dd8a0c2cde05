use Rattle.std.proofs.Common.{rules}
use Rattle.litmus_outcomes.proofs.Lines.{opens_all, opens_first, opens_more}
use Rattle.litmus_outcomes.proofs.opening.give_lines.Goals as goal

pub lines-init : goal.lines-init
lines-init g c = opens_first c.args.lines.now c.new-events.result.items (search rules)

pub lines-preserved : goal.lines-preserved
lines-preserved g c =
    let one = c.in_ok-give_line.ensures in
    opens_more c.args.lines.now c.lines.k c.index-lines-k.result c.lines.events.items one.0 c.give_line.new.events.items c.lines-test.true c.index-lines-k.is one.1
    one.2 c.lines.invariant

pub returns : goal.returns
returns g c = opens_all c.args.lines.now c.lines.k c.lines.events.items c.lines-test.false c.lines.invariant
