use Rattle.std.proofs.Common.{◌+◌, ◌*◌, ◌≤◌, ◌^◌, ◌++◌, ◌∷◌, [], refl, sym, ap, ◌∙◌, subst, rules, arith}
use Rattle.slot_lock.specs.Framed.{AddsFrames}
use Rattle.radix_node.specs.Run.{width_of}
use Rattle.radix_node.specs.Node.{Parts, runs, flatten}
use Rattle.radix_node.specs.Slots.{parts_of}
use Rattle.radix_node.specs.Walk.{frames_from}
use Rattle.radix_node.proofs.Divided.{part_ends}
use Rattle.radix_node.proofs.Flat.{width_pos}
use Rattle.radix_node.proofs.Walks.{along_in, along_part, along_down, along_below, along_next, slot_fits}
use Rattle.radix_node.proofs.Listing.{ListsTo, is_one, list_none, list_one, list_full, list_below, list_child}
use Rattle.radix_node.proofs.node.Node.+list_frames.Goals as goal
use Rattle.radix_node.proofs.node.Node.+list_frames.Goals.{in-Own+in-Some+else-is_full, in-Own+in_default, in-Child+else-upto-slot}

pub index-requires : goal.index-requires
index-requires g t c =
    let full = c.self.invariant.full in
    omega (arith, along_in c.slots.invariant.0 c.slots-test.true, full)

pub overflow_mul-slot : goal.overflow_mul-slot
overflow_mul-slot g t c =
    omega (arith, slot_fits c.slots.invariant.0 c.slots-test.true)

pub overflow_add-slot : goal.overflow_add-slot
overflow_add-slot g t c =
    omega (arith, slot_fits c.slots.invariant.0 c.slots-test.true, c.requires.fits)

pub overflow_mul-slot-in-Child : goal.overflow_mul-slot-in-Child
overflow_mul-slot-in-Child g t c =
    omega (arith, slot_fits c.slots.invariant.0 c.slots-test.true)

pub overflow_add-slot-in-Child : goal.overflow_add-slot-in-Child
overflow_add-slot-in-Child g t c =
    omega (arith, slot_fits c.slots.invariant.0 c.slots-test.true, c.requires.fits)

pub overflow_mul-k : goal.overflow_mul-k
overflow_mul-k g t c =
    omega (arith, slot_fits c.slots.invariant.0 c.slots-test.true)

pub part_in-part-requires-clause-starts : goal.part_in-part-requires-clause-starts
part_in-part-requires-clause-starts g t c = let l = c.slots.invariant.0 in rw l.width_is (along_below l c.slots-test.true)

pub part_in-part-requires-clause-ends : goal.part_in-part-requires-clause-ends
part_in-part-requires-clause-ends g t c = let l = c.slots.invariant.0 in rw l.width_is l.past

pub part_in-part-requires-clause-wide : goal.part_in-part-requires-clause-wide
part_in-part-requires-clause-wide g t c = let l = c.slots.invariant.0 in rw l.width_is (width_pos c.self.inside.level)

pub part_in-part-requires-clause-small : goal.part_in-part-requires-clause-small
part_in-part-requires-clause-small g t c = slot_fits c.slots.invariant.0 c.slots-test.true

pub overflow_add-slot-in-Child-2 : goal.overflow_add-slot-in-Child-2
overflow_add-slot-in-Child-2 g t c =
    let within = c.part_in-part.ensures.within in
    omega (arith, slot_fits c.slots.invariant.0 c.slots-test.true, within, c.requires.fits)

pub returns-then-upto-slot-clause-low : goal.returns-then-upto-slot-clause-low
returns-then-upto-slot-clause-low g t c =
    let low = c.list_frames-upto.ensures.low in
    let first = c.part_in-part.ensures.first in
    omega (arith, low, first)

pub returns-then-upto-slot-clause-high : goal.returns-then-upto-slot-clause-high
returns-then-upto-slot-clause-high g t c =
    let high = c.list_frames-upto.ensures.high in
    let end = c.part_in-part.ensures.end in
    omega (arith, high, end)

pub returns-then-upto-slot-clause-full : goal.returns-then-upto-slot-clause-full
returns-then-upto-slot-clause-full g t c = λ more. c.list_frames-upto.ensures.full c.if-upto-slot.true

pub returns-then-is_full-clause-high : goal.returns-then-is_full-clause-high
returns-then-is_full-clause-high g t c =
    let l = c.slots.invariant.0 in
    let below = along_below l c.slots-test.true in
    rw l.width_is (omega (arith, below))

pub returns-then-is_full-clause-low : goal.returns-then-is_full-clause-low
returns-then-is_full-clause-low g t c =
    let l = c.slots.invariant.0 in
    let one = is_one _ c.in-Own.state c.args.first c.args.end c.self.invariant (along_in l c.slots-test.true) (sym c.in-Own.is ∙ c.index.ensures)
    (along_below l c.slots-test.true) l.past (sym c.frame.ensures ∙ c.in-Some.is) in
    rw l.width_is (omega (arith, one.low))

pub returns-then-is_full-clause-added : goal.returns-then-is_full-clause-added
returns-then-is_full-clause-added g t c =
    let l = c.slots.invariant.0 in
    rw (l.width_is, ← c.self.view_is)
    (list_full _ c.in-Own.state c.args.base c.args.first c.args.end _ _ c.self.invariant (along_in l c.slots-test.true) (sym c.in-Own.is ∙ c.index.ensures)
    (along_below l c.slots-test.true) l.past (sym c.frame.ensures ∙ c.in-Some.is) c.slots.invariant.1)

pub list_frames-upto-requires : goal.list_frames-upto-requires
list_frames-upto-requires g t c κs within =
    let l = c.slots.invariant.0 in
    let is_in = along_in l c.slots-test.true in
    let down =
    along_down _ c.in-Child.node c.deref.result.now l c.slots-test.true c.self.invariant
    (sym c.in-Child.is ∙ c.index.ensures) c.deref.ensures c.part_in-part.ensures.within in
    let lower = down.falls in
    let last = down.within in
    let here = ap (λ (v : Parts). v.level) c.self.view_is in
    let p = c.part_in-part.ensures in
    let most : c.args.base + 512 * width_of c.self.inside.level ≤ 2 ^ 36 =
    subst (λ (v : Parts). c.args.base + 512 * width_of v.level ≤ 2 ^ 36) (sym c.self.view_is) c.requires.fits in
    let ends = part_ends (width_of c.self.inside.level) c.slots.k is_in in
    let wide = l.width_is in
    let fits : c.args.base + c.slots.k * c.slot_pages-width.result + 512 * width_of c.deref.result.now.level ≤ 2 ^ 36 =
    rw wide (omega (arith, most, ends, down.pages)) in
    search rules

pub returns-then-upto-slot-clause-added : goal.returns-then-upto-slot-clause-added
returns-then-upto-slot-clause-added g t c =
    let l = c.slots.invariant.0 in
    let e = c.list_frames-upto.ensures in
    rw (← c.self.view_is)
    (list_below _ c.in-Child.node c.deref.result.now c.args.base c.args.first c.args.end c.part_in-part.result.first c.part_in-part.result.end
    c.list_frames-upto.result _ c.slots.list.items c.list_frames-upto.new.list.items c.self.invariant (along_in l c.slots-test.true)
    (sym c.in-Child.is ∙ c.index.ensures)
    c.deref.ensures (along_part l c.part_in-part.ensures.first c.part_in-part.ensures.end) l.some (along_below l c.slots-test.true) l.past
    (subst (λ n. c.args.base + c.slots.k * n + c.part_in-part.result.first ≤ c.list_frames-upto.result) l.width_is e.low)
    (subst (λ n. c.list_frames-upto.result ≤ c.args.base + c.slots.k * n + c.part_in-part.result.end) l.width_is e.high)
    (subst (λ n. AddsFrames (frames_from (c.args.base + c.slots.k * n) (runs c.deref.result.now))
    (c.args.base + c.slots.k * n + c.part_in-part.result.first) c.list_frames-upto.result c.slots.list.items
    c.list_frames-upto.new.list.items) l.width_is e.added)
    c.slots.invariant.1)

pub slots-preserved : goal.slots-preserved
slots-preserved g t c =
    let l = c.slots.invariant.0 in
    let low = along_below l c.slots-test.true in
    let is_in = along_in l c.slots-test.true in (
      along_next l refl,
      elim c.match-index.branch as (λ _. ListsTo (flatten (width_of c.self.inside.level) (parts_of c.self.inside.slots.items)) c.args.base
          c.args.first c.args.end ((c.slots.k + 1) * width_of c.self.inside.level) c.args.list.now.items c.match-index.list.items) [
            | in-Own+in-Some+else-is_full w ↦
                let items = ap (λ v. v.items) w.list-is ∙ w.push.ensures.items
                ∙ ap (λ n. c.slots.list.items ++ (record { page = c.args.base + c.slots.k * n; frame = w.in-Some.frame }) ∷ []) l.width_is in
                subst (λ xs. ListsTo (flatten (width_of c.self.inside.level) (parts_of c.self.inside.slots.items)) c.args.base c.args.first
                c.args.end ((c.slots.k + 1) * width_of c.self.inside.level) c.args.list.now.items xs) (sym items)
                (list_one _ w.in-Own.state c.args.base c.args.first c.args.end _ c.slots.list.items c.self.invariant is_in (sym w.in-Own.is
                ∙ c.index.ensures) low l.past
                (sym w.frame.ensures ∙ w.in-Some.is) c.slots.invariant.1)
            | in-Own+in_default w ↦
                let items = ap (λ v. v.items) w.list-is in
                subst (λ xs. ListsTo (flatten (width_of c.self.inside.level) (parts_of c.self.inside.slots.items)) c.args.base c.args.first
                c.args.end ((c.slots.k + 1) * width_of c.self.inside.level) c.args.list.now.items xs) (sym items)
                (list_none _ w.in-Own.state c.args.base c.args.first c.args.end _ c.slots.list.items c.self.invariant is_in (sym w.in-Own.is
                ∙ c.index.ensures) l.some low l.past
                (sym w.frame.ensures ∙ w.in_default.is) c.slots.invariant.1)
            | in-Child+else-upto-slot w ↦
                let items = ap (λ v. v.items) w.list-is in
                let e = w.list_frames-upto.ensures in
                let done = w.if-upto-slot.false in
                subst (λ xs. ListsTo (flatten (width_of c.self.inside.level) (parts_of c.self.inside.slots.items)) c.args.base c.args.first
                c.args.end ((c.slots.k + 1) * width_of c.self.inside.level) c.args.list.now.items xs) (sym items)
                (list_child _ w.in-Child.node w.deref.result.now c.args.base c.args.first c.args.end w.part_in-part.result.first w.part_in-part.result.end
                w.list_frames-upto.result _ c.slots.list.items w.list_frames-upto.new.list.items c.self.invariant is_in (sym w.in-Child.is ∙ c.index.ensures)
                w.deref.ensures (along_part l w.part_in-part.ensures.first w.part_in-part.ensures.end) l.some low l.past
                (subst (λ n. c.args.base + c.slots.k * n + w.part_in-part.result.first ≤ w.list_frames-upto.result) l.width_is e.low)
                (subst (λ n. w.list_frames-upto.result ≤ c.args.base + c.slots.k * n + w.part_in-part.result.end) l.width_is e.high)
                (subst (λ n. c.args.base + c.slots.k * n + w.part_in-part.result.end ≤ w.list_frames-upto.result) l.width_is (omega (arith, done)))
                (subst (λ n. AddsFrames (frames_from (c.args.base + c.slots.k * n) (runs w.deref.result.now))
                (c.args.base + c.slots.k * n + w.part_in-part.result.first) w.list_frames-upto.result c.slots.list.items
                w.list_frames-upto.new.list.items) l.width_is e.added)
                c.slots.invariant.1)
          ],
    )
