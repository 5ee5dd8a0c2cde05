use Rattle.std.proofs.Common.{◌≡◌, ◌+◌, ◌*◌, ◌-◌, ◌<◌, ◌≤◌, ◌^◌, refl, sym, ap, ◌∙◌, subst, rules, arith}
use Rattle.radix_node.specs.Run.{width_of, cell_at}
use Rattle.radix_node.specs.Node.{Parts, runs}
use Rattle.radix_node.specs.Edit.{CanEdit}
use Rattle.radix_node.proofs.Flat.{whole-node, width_pos, child_level, child_pages, child_node}
use Rattle.radix_node.proofs.Walks.{along_below, along_done, along_next, slot_fits, along_in, along_part, along_down}
use Rattle.radix_node.proofs.Edits.{edits_none, own_within, own_node, edits_own, edits_child, child_begins, child_ends, can_fewer}
use Rattle.radix_node.proofs.Edits.{InSlot, Narrow, own_narrow, child_narrow, child_uncrossed}
use Rattle.radix_node.proofs.node.Node.+edit.Goals as goal
use Rattle.radix_node.proofs.node.Node.+edit.Goals.{Joined-index_mut, in-Own, in-Child, in-Own-index_mut, in-Child-index_mut}

pub slots-init : goal.slots-init
slots-init g t c =
    let e = c.slots_of-slots.ensures in
    let from = e.from_low in (
      record {
        low = c.self.invariant.low;
        width_is = c.slot_pages-width.ensures;
        some = c.requires.some;
        past = e.from_high;
        last = e.to;
        to_low = e.to_low;
        to_high = e.to_high;
      },
      c.self.invariant,
      ap (λ (v : Parts). v.level) c.self.view_is,
      rw (← c.self.view_is) (edits_none _ c.args.first c.args.end c.args.by c.args.edit.now _ from),
    )

pub overflow_mul-start : goal.overflow_mul-start
overflow_mul-start g t c =
    omega (arith, slot_fits c.slots.invariant.0 c.slots-test.true)

pub part_in-part-requires-clause-starts : goal.part_in-part-requires-clause-starts
part_in-part-requires-clause-starts g t c = let l = c.slots.invariant.0 in rw l.width_is (along_below l c.slots-test.true)

pub part_in-part-requires-clause-ends : goal.part_in-part-requires-clause-ends
part_in-part-requires-clause-ends g t c = let l = c.slots.invariant.0 in rw l.width_is l.past

pub part_in-part-requires-clause-wide : goal.part_in-part-requires-clause-wide
part_in-part-requires-clause-wide g t c = let l = c.slots.invariant.0 in rw l.width_is (width_pos c.slots.self-inside.level)

pub overflow_add-past : goal.overflow_add-past
overflow_add-past g t c =
    let p = c.part_in-part.ensures in
    omega (arith, slot_fits c.slots.invariant.0 c.slots-test.true, p.some, p.within)

pub overflow_sub-past : goal.overflow_sub-past
overflow_sub-past g t c = let p = c.part_in-part.ensures in omega (arith, p.first)

pub overflow_add-past-in-slots : goal.overflow_add-past-in-slots
overflow_add-past-in-slots g t c = let p = c.part_in-part.ensures in omega (arith, p.first, p.end, p.some, c.requires.few)

pub index_mut-requires-in-slots : goal.index_mut-requires-in-slots
index_mut-requires-in-slots g t c =
    let full = c.slots.invariant.1.full in
    omega (arith, along_in c.slots.invariant.0 c.slots-test.true, full)

pub part_in-part-requires-clause-small : goal.part_in-part-requires-clause-small
part_in-part-requires-clause-small g t c = slot_fits c.slots.invariant.0 c.slots-test.true

pub edit-requires-in-Child-index_mut : goal.edit-requires-in-Child-index_mut
edit-requires-in-Child-index_mut g t c κs within =
    let l = c.slots.invariant.0 in
    let n = c.slots.invariant.1 in
    let h = c.slots.invariant.3 in
    let is_in = along_in l c.slots-test.true in
    let part = along_part l c.part_in-part.ensures.first c.part_in-part.ensures.end in
    let is = sym c.in-Child-index_mut.is ∙ c.index_mut-in-slots.ensures.value in
    let e = c.deref_mut-in-Child-index_mut.ensures.value in
    let p = c.part_in-part.ensures in
    let down =
    along_down _ c.in-Child-index_mut.node c.deref_mut-in-Child-index_mut.result.now l c.slots-test.true n is e p.within in
    let lower = down.falls in
    let last = down.within in
    let here = c.slots.invariant.2 in
    let begins =
    child_begins _ c.in-Child-index_mut.node c.deref_mut-in-Child-index_mut.result.now
    (runs c.args.self.now) c.args.first c.args.end c.part_in-part.result.first
    c.part_in-part.result.end c.args.by c.args.edit.now n is_in is e part p.some c.requires.begins h
    in
    let ends =
    child_ends _ c.in-Child-index_mut.node c.deref_mut-in-Child-index_mut.result.now
    (runs c.args.self.now) c.args.first c.args.end c.part_in-part.result.first
    c.part_in-part.result.end c.args.by c.args.edit.now n is_in is e part p.some c.requires.ends h
    in
    let fewer : (c.args.by + (c.slots.k * c.slot_pages-width.result + c.part_in-part.result.first - c.args.first))
    + (c.part_in-part.result.end - c.part_in-part.result.first) ≤ c.args.by + (c.args.end - c.args.first) =
    omega (arith, p.first, p.end, p.some) in
    let few : (c.args.by + (c.slots.k * c.slot_pages-width.result + c.part_in-part.result.first - c.args.first))
    + (c.part_in-part.result.end - c.part_in-part.result.first) ≤ 2 ^ 36 =
    omega (arith, fewer, c.requires.few) in
    let can =
    can_fewer c.args.edit.now (c.args.by + (c.args.end - c.args.first))
    ((c.args.by + (c.slots.k * c.slot_pages-width.result + c.part_in-part.result.first - c.args.first))
    + (c.part_in-part.result.end - c.part_in-part.result.first))
    c.requires.sound fewer (omega (arith, p.some)) in
    search rules

pub slots-preserved : goal.slots-preserved
slots-preserved g t c =
    let l = c.slots.invariant.0 in
    let n = c.slots.invariant.1 in
    let h = c.slots.invariant.3 in
    let low = along_below l c.slots-test.true in
    let is_in = along_in l c.slots-test.true in
    let kw : c.slots.k * c.slot_pages-width.result ≡ c.slots.k * width_of c.slots.self-inside.level =
    ap (λ n. c.slots.k * n) l.width_is in
    let part = along_part l c.part_in-part.ensures.first c.part_in-part.ensures.end in
    let p = c.part_in-part.ensures in
    let old = runs c.args.self.now in
    elim c.match-index_mut-2.branch [
      | in-Own-index_mut w ↦
          let is = sym w.in-Own-index_mut.is ∙ c.index_mut-in-slots.ensures.value in
          let inside =
          own_within _ w.in-Own-index_mut.state old c.args.first c.args.end c.args.by
          c.args.edit.now n is_in is low l.past c.requires.begins c.requires.ends h in
          let e : (c.args.by + (c.slots.k * c.slot_pages-width.result + c.part_in-part.result.first - c.args.first)) ≡ c.args.by
          + (c.slots.k * width_of c.slots.self-inside.level - c.args.first) =
          omega (arith, kw, part.first_is, inside.low) in
          let node =
          own_node _ w.in-Own-index_mut.state w.edit-in-Own-index_mut.new.self c.args.first
          c.args.end c.args.by
          (c.args.by + (c.slots.k * c.slot_pages-width.result + c.part_in-part.result.first - c.args.first))
          c.args.edit.now n is_in is inside c.requires.sound e w.edit-in-Own-index_mut.ensures in
          rw w.self-inside-is (
            along_next l refl,
            node,
            c.slots.invariant.2,
            edits_own _ w.in-Own-index_mut.state
                w.edit-in-Own-index_mut.new.self old c.args.first c.args.end c.args.by
                (c.args.by + (c.slots.k * c.slot_pages-width.result + c.part_in-part.result.first - c.args.first))
                c.args.edit.now n node is_in is l.past inside e w.edit-in-Own-index_mut.ensures h,
          )
      | in-Child-index_mut w ↦
          let is = sym w.in-Child-index_mut.is ∙ c.index_mut-in-slots.ensures.value in
          let e : (c.args.by + (c.slots.k * c.slot_pages-width.result + c.part_in-part.result.first - c.args.first)) ≡ c.args.by
          + (c.slots.k * width_of c.slots.self-inside.level + c.part_in-part.result.first - c.args.first) =
          omega (arith, kw) in
          let r = w.edit-in-Child-index_mut.ensures in
          let node =
          child_node _ w.in-Child-index_mut.node
          (record w.in-Child-index_mut.node { value = w.edit-in-Child-index_mut.new.self })
          w.deref_mut-in-Child-index_mut.result.now n is_in is
          w.deref_mut-in-Child-index_mut.ensures.value r.level r.whole in
          rw w.self-inside-is (
            along_next l refl,
            node,
            c.slots.invariant.2,
            edits_child _ w.in-Child-index_mut.node
                (record w.in-Child-index_mut.node { value = w.edit-in-Child-index_mut.new.self })
                w.deref_mut-in-Child-index_mut.result.now old c.args.first c.args.end
                c.part_in-part.result.first c.part_in-part.result.end c.args.by
                (c.args.by + (c.slots.k * c.slot_pages-width.result + c.part_in-part.result.first - c.args.first))
                c.args.edit.now n node is_in is w.deref_mut-in-Child-index_mut.ensures.value l.past part e
                r.inside r.outside h,
          )
    ]

pub returns-clause-level : goal.returns-clause-level
returns-clause-level g t c = c.slots.invariant.2

pub returns-clause-whole : goal.returns-clause-whole
returns-clause-whole g t c =
    whole-node c.slots.self-inside.level c.slots.self-inside.slots.items c.slots.invariant.1

pub returns-clause-inside : goal.returns-clause-inside
returns-clause-inside g t c =
    λ p a b. c.slots.invariant.3.inside p a b (let d = along_done c.slots.invariant.0 c.slots-test.false in omega arith)

pub returns-clause-outside : goal.returns-clause-outside
returns-clause-outside g t c = λ p o. c.slots.invariant.3.outside p o

pub edit-requires-in-Child : goal.edit-requires-in-Child
edit-requires-in-Child g t c κs within =
    let p = c.place_of-place.ensures in
    let at : InSlot c.self.inside.level c.args.first c.args.end _ _ = record {
      place = record { slot_in = p.slot; page_is = p.page; rest_in = p.rest };
      some = c.requires.some;
      short = subst (λ w. c.args.end - c.args.first ≤ w - c.place_of-place.result.rest) c.slot_pages-width.ensures c.if-end-first.true;
    } in
    let begins =
    ap (λ v. (cell_at (runs v) c.args.first).offset) c.self.view_is ∙ c.requires.begins in
    let ends = ap (λ v. (cell_at (runs v) c.args.end).offset) c.self.view_is ∙ c.requires.ends in
    let is = sym c.in-Child.is ∙ c.index_mut.ensures.value in
    let e = c.deref_mut.ensures.value in
    let w = child_pages _ c.in-Child.node c.deref_mut.result.now c.self.invariant p.slot is e in
    let lower = child_level _ c.in-Child.node c.deref_mut.result.now c.self.invariant p.slot is e in
    let here = ap (λ (v : Parts). v.level) c.self.view_is in
    let uncrossed =
    child_uncrossed _ c.in-Child.node c.deref_mut.result.now c.self.invariant at is e begins ends in
    let starts = uncrossed.begins in
    let stops = uncrossed.ends in
    let k : c.args.by + (c.args.end - c.args.first) ≡ c.args.by + (c.place_of-place.result.rest + (c.args.end - c.args.first) - c.place_of-place.result.rest) =
    omega arith in
    let can = subst (CanEdit c.args.edit.now) k c.requires.sound in
    let few : c.args.by + (c.place_of-place.result.rest + (c.args.end - c.args.first) - c.place_of-place.result.rest) ≤ 2 ^ 36 =
    omega (arith, c.requires.few) in
    let some : c.place_of-place.result.rest < c.place_of-place.result.rest + (c.args.end - c.args.first) =
    omega (arith, c.requires.some) in
    let last : c.place_of-place.result.rest + (c.args.end - c.args.first) ≤ 512 * width_of c.deref_mut.result.now.level =
    omega (arith, w, at.short, p.rest) in
    search rules

-- the slot that has the whole range was edited in its place
narrow : (g : _) (t : _) (c : Joined-index_mut g t) → (c.match-index_mut.self-inside.level ≡ c.self.inside.level)
    × Narrow c.self.inside.level c.self.inside.slots.items c.match-index_mut.self-inside.slots.items c.args.first c.args.end
    c.args.by c.args.edit.now
narrow g t c =
    let p = c.place_of-place.ensures in
    let at : InSlot c.self.inside.level c.args.first c.args.end _ _ = record {
      place = record { slot_in = p.slot; page_is = p.page; rest_in = p.rest };
      some = c.requires.some;
      short = subst (λ w. c.args.end - c.args.first ≤ w - c.place_of-place.result.rest) c.slot_pages-width.ensures c.if-end-first.true;
    } in
    let begins =
    ap (λ v. (cell_at (runs v) c.args.first).offset) c.self.view_is ∙ c.requires.begins in
    let ends = ap (λ v. (cell_at (runs v) c.args.end).offset) c.self.view_is ∙ c.requires.ends in
    elim c.match-index_mut.branch [
      | in-Own w ↦
          rw w.self-inside-is (
            refl,
            own_narrow _ w.in-Own.state w.edit.new.self c.args.by c.args.edit.now c.self.invariant at
                (sym w.in-Own.is ∙ c.index_mut.ensures.value) begins ends c.requires.sound w.edit.ensures,
          )
      | in-Child w ↦
          rw w.self-inside-is (
            refl,
            child_narrow _ w.in-Child.node (record w.in-Child.node { value = w.edit-in-Child.new.self })
                w.deref_mut.result.now c.args.by c.args.edit.now c.self.invariant at
                (sym w.in-Child.is ∙ c.index_mut.ensures.value) w.deref_mut.ensures.value
                w.edit-in-Child.ensures.level w.edit-in-Child.ensures.whole w.edit-in-Child.ensures.inside
                w.edit-in-Child.ensures.outside,
          )
    ]

pub invariant_of-self : goal.invariant_of-self
invariant_of-self g t c = let (same, h) = narrow g t c in rw same h.node

pub returns-then-end-first-clause-whole : goal.returns-then-end-first-clause-whole
returns-then-end-first-clause-whole g t c =
    whole-node c.match-index_mut.self-inside.level _ (invariant_of-self g t c)

pub returns-then-end-first-clause-inside : goal.returns-then-end-first-clause-inside
returns-then-end-first-clause-inside g t c =
    let (same, h) = narrow g t c in
    rw (same, ← c.self.view_is) (λ p a b. h.edits.inside p a b (omega (arith, h.by_end)))

pub returns-then-end-first-clause-outside : goal.returns-then-end-first-clause-outside
returns-then-end-first-clause-outside g t c =
    let (same, h) = narrow g t c in
    rw (same, ← c.self.view_is) h.edits.outside
