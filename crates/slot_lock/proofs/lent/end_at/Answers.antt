use Rattle.std.proofs.Common.{◌≡◌, ◌∙◌, ◌^◌, ap, arith}
use Rattle.slot_lock.specs.declared.slot.Slot.{Slot}
use Rattle.slot_lock.proofs.Cuts.{below, here, longer}
use Rattle.slot_lock.proofs.ListLaws.{list_laws}
use Rattle.slot_lock.proofs.Adding.{edge_cut, edge_there, inside_last, last_ends}
use Rattle.slot_lock.proofs.lent.end_at.Goals as goal

pub cut-requires-clause-inside : goal.cut-requires-clause-inside
cut-requires-clause-inside g c = inside_last _ c.requires.list _ _ c.requires.place c.requires.above c.if-end-lt-PAGE_LIMIT.true

pub unreachable-requires : goal.unreachable-requires
unreachable-requires g c = omega (arith, c.requires.room, c.in-Err.ensures.full)

pub returns-in_default-clause-list : goal.returns-in_default-clause-list
returns-in_default-clause-list g c = c.cut.ensures.list

pub returns-in_default-clause-slots : goal.returns-in_default-clause-slots
returns-in_default-clause-slots g c =
    let inside = inside_last _ c.requires.list _ _ c.requires.place c.requires.above c.if-end-lt-PAGE_LIMIT.true in
    rw c.in_default.ensures.items (edge_cut _ c.requires.list _ _ inside)

pub returns-in_default-clause-within : goal.returns-in_default-clause-within
returns-in_default-clause-within g c =
    let inside = inside_last _ c.requires.list _ _ c.requires.place c.requires.above c.if-end-lt-PAGE_LIMIT.true in
    rw c.in_default.ensures.items (omega (arith, longer _ _ _ inside, c.requires.place))

pub returns-in_default-clause-start : goal.returns-in_default-clause-start
returns-in_default-clause-start g c =
    let inside = inside_last _ c.requires.list _ _ c.requires.place c.requires.above c.if-end-lt-PAGE_LIMIT.true in
    rw c.in_default.ensures.items (ap (λ (r : Slot). r.start) (below _ _ _ inside _ (omega arith)))

pub returns-in_default-clause-end : goal.returns-in_default-clause-end
returns-in_default-clause-end g c =
    let inside = inside_last _ c.requires.list _ _ c.requires.place c.requires.above c.if-end-lt-PAGE_LIMIT.true in
    rw c.in_default.ensures.items (ap (λ (r : Slot). r.start) (here _ _ _ inside))

pub returns-else-end-lt-PAGE_LIMIT-clause-slots : goal.returns-else-end-lt-PAGE_LIMIT-clause-slots
returns-else-end-lt-PAGE_LIMIT-clause-slots g c =
    let same : 2 ^ 35 ≡ c.args.end = omega (arith, c.requires.high, c.if-end-lt-PAGE_LIMIT.false) in
    edge_there _ _ (rw same at (list_laws _ c.requires.list).limit)

pub returns-else-end-lt-PAGE_LIMIT-clause-within : goal.returns-else-end-lt-PAGE_LIMIT-clause-within
returns-else-end-lt-PAGE_LIMIT-clause-within g c = omega (arith, c.requires.place)

pub returns-else-end-lt-PAGE_LIMIT-clause-end : goal.returns-else-end-lt-PAGE_LIMIT-clause-end
returns-else-end-lt-PAGE_LIMIT-clause-end g c =
    let same : 2 ^ 35 ≡ c.args.end = omega (arith, c.requires.high, c.if-end-lt-PAGE_LIMIT.false) in
    last_ends _ c.requires.list _ c.requires.place ∙ same
