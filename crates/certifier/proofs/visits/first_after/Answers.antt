use Rattle.std.proofs.Common.{◌+◌, ◌-◌, ◌/◌, ◌≤◌, arith}
use Rattle.certifier.proofs.Looked.{ends_by}
use Rattle.certifier.proofs.visits.first_after.Goals as goal

pub halves-preserved-then-slot-page-2 : goal.halves-preserved-then-slot-page-2
halves-preserved-then-slot-page-2 g c =
    let some = c.halves-test.true in
    let high = c.halves.invariant.high in
    let from = c.if-slot-page.true in
    let by = c.if-slot-page-2.true in
    record {
      low = omega (arith, some);
      high = high;
      before = ends_by c.args.slots.now c.args.page (c.halves.low + (c.halves.high - c.halves.low) / 2) c.index-slots-middle.result c.requires
          (omega (arith, some, high)) c.index-slots-middle.is (omega (arith, from, by));
    }
