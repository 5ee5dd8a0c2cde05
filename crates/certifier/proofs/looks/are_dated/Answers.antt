use Rattle.std.proofs.Common.{◌≡◌, ◌<◌, ◌-◌, ap, arith}
use Rattle.live_levels.specs.declared.act.SlotChange.{SlotChange}
use Rattle.certifier.proofs.Histories.{dated_more, read_ticket}
use Rattle.certifier.proofs.looks.are_dated.Goals as goal
use Rattle.certifier.proofs.looks.are_dated.Goals.{else-at-gt0-via-then-at-gt0+else-changes-at, else-at-gt0-via-else-at-gt0}

pub changes-preserved : goal.changes-preserved
changes-preserved c =
    let here = read_ticket c.args.changes.now c.changes.at c.index-changes-at.result c.changes-test.true c.index-changes-at.is in
    let same = ap (λ (x : SlotChange). x.ticket) c.index-changes-at.is in
    let below = c.if-n-changes.false in
    dated_more c.args.n c.changes.at c.args.changes.now c.changes.invariant (omega (arith, here, same, below)) (λ some. elim c.else-at-gt0.branch [
      | else-at-gt0-via-then-at-gt0+else-changes-at w ↦
          let this = read_ticket c.args.changes.now c.changes.at w.index-changes-at-then-at-gt0.result c.changes-test.true w.index-changes-at-then-at-gt0.is in
          let this_is = ap (λ (x : SlotChange). x.ticket) w.index-changes-at-then-at-gt0.is in
          let lt = c.changes-test.true in
          let last = read_ticket c.args.changes.now (c.changes.at - 1) w.index-changes-at-then-at-gt0-2.result
          (omega (arith, lt)) w.index-changes-at-then-at-gt0-2.is in
          let last_is = ap (λ (x : SlotChange). x.ticket) w.index-changes-at-then-at-gt0-2.is in
          let above = w.if-changes-at.false in
          omega (arith, this, last, above, this_is, last_is)
      | else-at-gt0-via-else-at-gt0 w ↦ let none = w.if-at-gt0.false in absurd (omega (arith, some, none))
    ])
