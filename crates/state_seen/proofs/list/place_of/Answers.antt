use Rattle.std.proofs.Common.{arith, ◌+◌, ◌-◌, ◌/◌, ◌<◌, length}
use Rattle.state_seen.proofs.Ordered.{from_on, up_to}
use Rattle.state_seen.proofs.list.place_of.Goals as goal

pub halves-preserved-then-entries-middle : goal.halves-preserved-then-entries-middle
halves-preserved-then-entries-middle g c =
    let lt = c.halves-test.true in
    let high = c.halves.invariant.within in
    let in_list : c.halves.low + (c.halves.high - c.halves.low) / 2 < length c.args.entries.now = omega (arith, lt, high) in
    record {
      rises = omega (arith, lt);
      within = high;
      below = up_to c.args.entries.now (c.halves.low + (c.halves.high - c.halves.low) / 2) c.args.page _ c.requires in_list c.if-entries-middle.true;
      above = c.halves.invariant.above;
    }

pub halves-preserved : goal.halves-preserved
halves-preserved g c =
    let lt = c.halves-test.true in
    let high = c.halves.invariant.within in
    record {
      rises = omega arith;
      within = omega (arith, lt, high);
      below = c.halves.invariant.below;
      above = from_on c.args.entries.now (c.halves.low + (c.halves.high - c.halves.low) / 2) c.args.page _ c.requires c.if-entries-middle.false;
    }
