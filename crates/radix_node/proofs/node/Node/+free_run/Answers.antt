use Rattle.std.proofs.Common.{◌≡◌, ◌+◌, ◌*◌, ◌<◌, ◌≤◌, ◌-◌, ◌^◌, refl, sym, ap, ◌∙◌, subst, rules, arith}
use Rattle.radix_node.specs.Run.{width_of}
use Rattle.radix_node.specs.Node.{Parts, runs, flatten}
use Rattle.radix_node.specs.Slots.{parts_of}
use Rattle.radix_node.specs.Walk.{FindsRun, HasFreeRun, IsOpen}
use Rattle.radix_node.proofs.Divided.{part_ends}
use Rattle.radix_node.proofs.Flat.{width_pos}
use Rattle.radix_node.proofs.Walks.{along_in, along_part, along_down, FreeTo, reach_high, free_before, along_below}
use Rattle.radix_node.proofs.Walks.{along_done, along_next, free_mapped, free_on, free_found, free_child, free_found_below}
use Rattle.radix_node.proofs.Walks.{free_open, slot_fits}
use Rattle.radix_node.proofs.node.Node.+free_run.Goals as goal
use Rattle.radix_node.proofs.node.Node.+free_run.Goals.{in-Own+then-is_mapped, in-Own+else-is_mapped+else-n-slot, in-Child+in-Open}

pub index-requires : goal.index-requires
index-requires g t c =
    let full = c.self.invariant.full in
    omega (arith, along_in c.slots.invariant.0 c.slots-test.true, full)

pub overflow_mul-k : goal.overflow_mul-k
overflow_mul-k g t c =
    omega (arith, slot_fits c.slots.invariant.0 c.slots-test.true)

pub part_in-part-requires-clause-starts : goal.part_in-part-requires-clause-starts
part_in-part-requires-clause-starts g t c = let l = c.slots.invariant.0 in rw l.width_is (along_below l c.slots-test.true)

pub part_in-part-requires-clause-ends : goal.part_in-part-requires-clause-ends
part_in-part-requires-clause-ends g t c = let l = c.slots.invariant.0 in rw l.width_is l.past

pub part_in-part-requires-clause-wide : goal.part_in-part-requires-clause-wide
part_in-part-requires-clause-wide g t c = let l = c.slots.invariant.0 in rw l.width_is (width_pos c.self.inside.level)

pub part_in-part-requires-clause-small : goal.part_in-part-requires-clause-small
part_in-part-requires-clause-small g t c = slot_fits c.slots.invariant.0 c.slots-test.true

pub overflow_mul-slot : goal.overflow_mul-slot
overflow_mul-slot g t c =
    omega (arith, slot_fits c.slots.invariant.0 c.slots-test.true)

pub overflow_add-slot : goal.overflow_add-slot
overflow_add-slot g t c =
    omega (arith, slot_fits c.slots.invariant.0 c.slots-test.true, c.requires.fits)

pub free_run-requires : goal.free_run-requires
free_run-requires g t c κs within =
    let l = c.slots.invariant.0 in
    let low = along_below l c.slots-test.true in
    let is_in = along_in l c.slots-test.true in
    let part = along_part l c.part_in-part.ensures.first c.part_in-part.ensures.end in
    let f = free_before part l.some low c.slots.invariant.1 in
    let down =
    along_down _ c.in-Child.node c.deref.result.now l c.slots-test.true c.self.invariant
    (sym c.in-Child.is ∙ c.index.ensures) c.deref.ensures c.part_in-part.ensures.within in
    let lower = down.falls in
    let last = down.within in
    let here = ap (λ (v : Parts). v.level) c.self.view_is in
    let p = c.part_in-part.ensures in
    let most : c.args.base + 512 * width_of c.self.inside.level ≤ 2 ^ 36 =
    subst (λ (v : Parts). c.args.base + 512 * width_of v.level ≤ 2 ^ 36) (sym c.self.view_is)
    c.requires.fits in
    let ends = part_ends (width_of c.self.inside.level) c.slots.k is_in in
    let wide = l.width_is in
    let fits : c.args.base + c.slots.k * c.slot_pages-width.result + 512 * width_of c.deref.result.now.level ≤ 2 ^ 36 =
    rw wide (omega (arith, most, ends, down.pages)) in
    let by : c.slots.open_from ≤ c.args.base + c.slots.k * c.slot_pages-width.result + c.part_in-part.result.first =
    rw wide (omega (arith, f.by)) in
    let short : c.args.base + c.slots.k * c.slot_pages-width.result + c.part_in-part.result.first < c.slots.open_from + c.args.n =
    rw wide (omega (arith, f.short)) in
    search rules

pub slots-preserved : goal.slots-preserved
slots-preserved g t c =
    let l = c.slots.invariant.0 in
    let low = along_below l c.slots-test.true in
    let is_in = along_in l c.slots-test.true in
    let part = along_part l c.part_in-part.ensures.first c.part_in-part.ensures.end in
    let f = free_before part l.some low c.slots.invariant.1 in
    let to = reach_high part l.past
    (let e : (c.slots.k + 1) * width_of c.self.inside.level ≡ c.slots.k * width_of c.self.inside.level + width_of c.self.inside.level =
    omega arith in e) in (
      along_next l refl,
      subst
          (λ u. FreeTo (flatten (width_of c.self.inside.level) (parts_of c.self.inside.slots.items)) c.args.base c.args.first c.args.end
          c.args.n c.args.start c.match-index.open_from u)
          to (elim c.match-index.branch [
            | in-Own+then-is_mapped w ↦
                subst
                (λ o. FreeTo (flatten (width_of c.self.inside.level) (parts_of c.self.inside.slots.items)) c.args.base c.args.first
                c.args.end c.args.n c.args.start o (c.slots.k * width_of c.self.inside.level + c.part_in-part.result.end))
                (sym
                (w.open_from-is ∙ ap (λ n. c.args.base + c.slots.k * n + c.part_in-part.result.end)
                l.width_is))
                (free_mapped _ w.in-Own.state c.args.base c.args.first c.args.end
                c.part_in-part.result.first c.part_in-part.result.end c.args.n c.args.start
                c.slots.open_from c.self.invariant is_in (sym w.in-Own.is ∙ c.index.ensures) part
                c.part_in-part.ensures.some (sym w.is_mapped.ensures ∙ w.if-is_mapped.true) f)
            | in-Own+else-is_mapped+else-n-slot w ↦
                subst
                (λ o. FreeTo (flatten (width_of c.self.inside.level) (parts_of c.self.inside.slots.items)) c.args.base c.args.first
                c.args.end c.args.n c.args.start o (c.slots.k * width_of c.self.inside.level + c.part_in-part.result.end))
                (sym w.open_from-is)
                (free_on _ w.in-Own.state c.args.base c.args.first c.args.end
                c.part_in-part.result.first c.part_in-part.result.end c.args.n c.args.start
                c.slots.open_from c.self.invariant is_in (sym w.in-Own.is ∙ c.index.ensures) part
                c.part_in-part.ensures.some (sym w.is_mapped.ensures ∙ w.if-is_mapped.false)
                (let few = w.if-n-slot.false in
                subst (λ n. c.args.base + c.slots.k * n + c.part_in-part.result.end - c.slots.open_from < c.args.n) l.width_is
                (omega (arith, few)))
                f)
            | in-Child+in-Open w ↦
                subst
                (λ o. FreeTo (flatten (width_of c.self.inside.level) (parts_of c.self.inside.slots.items)) c.args.base c.args.first
                c.args.end c.args.n c.args.start o (c.slots.k * width_of c.self.inside.level + c.part_in-part.result.end))
                (sym w.open_from-is)
                (free_child _ w.in-Child.node w.deref.result.now c.args.base c.args.first c.args.end
                c.part_in-part.result.first c.part_in-part.result.end c.args.n c.args.start
                c.slots.open_from w.in-Open.still c.self.invariant is_in
                (sym w.in-Child.is ∙ c.index.ensures) w.deref.ensures part
                (subst
                (λ n. IsOpen (runs w.deref.result.now) (c.args.base + c.slots.k * n) c.part_in-part.result.first c.part_in-part.result.end
                c.args.n c.slots.open_from w.in-Open.still)
                l.width_is
                (subst
                (λ r. FindsRun (runs w.deref.result.now) (c.args.base + c.slots.k * c.slot_pages-width.result) c.part_in-part.result.first
                c.part_in-part.result.end c.args.n c.slots.open_from r)
                w.in-Open.is w.free_run.ensures)) f)
          ]),
    )

pub returns-then-n-slot : goal.returns-then-n-slot
returns-then-n-slot g t c =
    let l = c.slots.invariant.0 in
    let low = along_below l c.slots-test.true in
    let is_in = along_in l c.slots-test.true in
    let part = along_part l c.part_in-part.ensures.first c.part_in-part.ensures.end in
    let f = free_before part l.some low c.slots.invariant.1 in
    rw (← c.self.view_is)
    (free_found _ c.in-Own.state c.args.base c.args.first c.args.end c.part_in-part.result.first
    c.part_in-part.result.end c.args.n c.args.start c.slots.open_from c.self.invariant is_in
    (sym c.in-Own.is ∙ c.index.ensures) part (sym c.is_mapped.ensures ∙ c.if-is_mapped.false)
    (subst
    (λ n. c.args.n ≤ c.args.base + c.slots.k * n + c.part_in-part.result.end - c.slots.open_from)
    l.width_is c.if-n-slot.true)
    f)

pub returns-in-Found : goal.returns-in-Found
returns-in-Found g t c =
    let l = c.slots.invariant.0 in
    let low = along_below l c.slots-test.true in
    let is_in = along_in l c.slots-test.true in
    let part = along_part l c.part_in-part.ensures.first c.part_in-part.ensures.end in
    let f = free_before part l.some low c.slots.invariant.1 in
    rw (← c.self.view_is)
    (free_found_below _ c.in-Child.node c.deref.result.now c.args.base c.args.first c.args.end
    c.part_in-part.result.first c.part_in-part.result.end c.args.n c.args.start c.slots.open_from
    c.in-Found.found c.self.invariant is_in (sym c.in-Child.is ∙ c.index.ensures) c.deref.ensures
    part
    (subst
    (λ n. HasFreeRun (runs c.deref.result.now) (c.args.base + c.slots.k * n) c.part_in-part.result.first c.part_in-part.result.end c.args.n
    c.slots.open_from c.in-Found.found)
    l.width_is
    (subst
    (λ r. FindsRun (runs c.deref.result.now) (c.args.base + c.slots.k * c.slot_pages-width.result) c.part_in-part.result.first
    c.part_in-part.result.end c.args.n c.slots.open_from r)
    c.in-Found.is c.free_run.ensures)) f)

pub returns : goal.returns
returns g t c =
    let l = c.slots.invariant.0 in
    rw (← c.self.view_is)
    (free_open _ c.args.base c.args.first c.args.end c.args.n c.args.start c.slots.open_from _
    c.slots.invariant.1
    (let d = along_done l (omega (arith, c.slots-test.false)) in let s = l.some in omega arith))
