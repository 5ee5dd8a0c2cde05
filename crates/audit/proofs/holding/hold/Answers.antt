use Rattle.std.proofs.Common.{◌≡◌, ◌<◌, ap, arith}
use Rattle.slot_lock.specs.Slots.{Locks}
use Rattle.audit.proofs.Held.{missing, missing_same, missing_split}
use Rattle.audit.proofs.holding.hold.Goals as goal

pub slots-smaller-in-Ok-Locked : goal.slots-smaller-in-Ok-Locked
slots-smaller-in-Ok-Locked g c =
    let s = g.M.SlotRead.slots c.hold_run-cursor.new.map in
    let t = g.M.SlotRead.slots c.lock_next.new.self in
    let locks : Locks s t c.only_core.result c.hold_run-cursor.result c.args.range.end c.in-Ok-Locked.upto = rw c.in-Ok-Locked.upto-is at rw
    c.in-Ok-Locked.field-0-is at c.in-Ok-Locked.ensures.step in
    let same : missing t ≡ missing s = missing_same s t (ap (λ x. x.edge) locks.now) in
    let before : missing s ≡ missing (g.M.SlotRead.slots c.slots.map) = missing_same (g.M.SlotRead.slots c.slots.map) s c.hold_run-cursor.ensures.edges in
    let more = locks.slot.ordered in
    let most = locks.by_end in
    let low = c.hold_run-cursor.ensures.low in
    omega (arith, same, before, more, most, low)

pub slots-smaller : goal.slots-smaller
slots-smaller g c =
    let s = g.M.SlotRead.slots c.hold_run-cursor.new.map in
    let t = g.M.SlotRead.slots c.lock_next.new.self in
    let less : missing t < missing s =
    missing_split s t c.hold_run-cursor.result c.args.range.end (rw c.in-Ok-Split.field-0-is at c.in-Ok-Split.ensures.step) in
    let before : missing s ≡ missing (g.M.SlotRead.slots c.slots.map) = missing_same (g.M.SlotRead.slots c.slots.map) s c.hold_run-cursor.ensures.edges in
    let low = c.hold_run-cursor.ensures.low in
    omega (arith, less, before, low)
