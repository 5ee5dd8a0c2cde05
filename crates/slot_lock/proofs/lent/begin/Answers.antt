use Rattle.std.proofs.Common.{◌≡◌, ◌<◌, length, ap, arith}
use Rattle.slot_lock.specs.declared.slot.Slot.{Slot}
use Rattle.slot_lock.specs.SlotList.{get_slot}
use Rattle.slot_lock.proofs.Places.{read_slot}
use Rattle.slot_lock.proofs.Cuts.{here, longer}
use Rattle.slot_lock.proofs.ListLaws.{edge_at}
use Rattle.slot_lock.proofs.Adding.{edge_cut, edge_there, inside_last}
use Rattle.slot_lock.proofs.lent.begin.Goals as goal

pub index-requires : goal.index-requires
index-requires g c = omega (arith, c.requires.last)

pub returns-then-first-index-clause-slots : goal.returns-then-first-index-clause-slots
returns-then-first-index-clause-slots g c =
    let within : c.args.last < length c.args.slots.now.items = omega (arith, c.requires.last) in
    let edge = edge_at _ c.requires.list c.args.last within in
    let slot = read_slot c.args.slots.now.items c.args.last c.index.result.now within c.index.ensures in
    let start = ap (λ (r : Slot). r.start) slot in
    let same : (get_slot c.args.slots.now.items c.args.last).start ≡ c.args.first = omega (arith, start, c.requires.low, c.if-first-index.true) in
    edge_there _ _ (rw same at edge)

pub returns-then-first-index-clause-start : goal.returns-then-first-index-clause-start
returns-then-first-index-clause-start g c =
    let slot = read_slot c.args.slots.now.items c.args.last c.index.result.now (omega (arith, c.requires.last)) c.index.ensures in
    let start = ap (λ (r : Slot). r.start) slot in
    omega (arith, start, c.requires.low, c.if-first-index.true)

pub cut-requires-clause-inside : goal.cut-requires-clause-inside
cut-requires-clause-inside g c =
    let slot = read_slot c.args.slots.now.items c.args.last c.index.result.now (omega (arith, c.requires.last)) c.index.ensures in
    inside_last _ c.requires.list _ _ c.requires.last (rw slot at c.if-first-index.false) c.requires.high

pub unreachable-requires : goal.unreachable-requires
unreachable-requires g c = omega (arith, c.requires.room, c.in-Err.ensures.full)

pub returns-clause-list : goal.returns-clause-list
returns-clause-list g c = c.cut.ensures.list

pub returns-clause-slots : goal.returns-clause-slots
returns-clause-slots g c =
    let slot = read_slot c.args.slots.now.items c.args.last c.index.result.now (omega (arith, c.requires.last)) c.index.ensures in
    let inside = inside_last _ c.requires.list _ _ c.requires.last (rw slot at c.if-first-index.false) c.requires.high in
    rw c.in_default.ensures.items (edge_cut _ c.requires.list _ _ inside)

pub returns-clause-place : goal.returns-clause-place
returns-clause-place g c =
    let slot = read_slot c.args.slots.now.items c.args.last c.index.result.now (omega (arith, c.requires.last)) c.index.ensures in
    let inside = inside_last _ c.requires.list _ _ c.requires.last (rw slot at c.if-first-index.false) c.requires.high in
    rw c.in_default.ensures.items (omega (arith, longer _ _ _ inside, c.requires.last))

pub returns-clause-start : goal.returns-clause-start
returns-clause-start g c =
    let slot = read_slot c.args.slots.now.items c.args.last c.index.result.now (omega (arith, c.requires.last)) c.index.ensures in
    let inside = inside_last _ c.requires.list _ _ c.requires.last (rw slot at c.if-first-index.false) c.requires.high in
    rw c.in_default.ensures.items (ap (λ (r : Slot). r.start) (here _ _ _ inside))

pub returns-clause-len : goal.returns-clause-len
returns-clause-len g c =
    let slot = read_slot c.args.slots.now.items c.args.last c.index.result.now (omega (arith, c.requires.last)) c.index.ensures in
    let inside = inside_last _ c.requires.list _ _ c.requires.last (rw slot at c.if-first-index.false) c.requires.high in
    omega (arith, ap length c.in_default.ensures.items, longer _ _ _ inside)
