use Rattle.slot_lock.proofs.Words.{◌≡◌, ◌||◌, ◌↔◌, true, refl, sym, ap, ◌∙◌, subst, rules, arith, members}
use Rattle.radix_node.specs.Node.{Parts, runs}
use Rattle.radix_node.specs.Walk.{HasUser}
use Rattle.radix_node.proofs.Flat.{width_pos}
use Rattle.radix_node.proofs.Walks.{along_in, along_part, along_down, along_below, along_done, along_next, slot_fits}
use Rattle.radix_node.proofs.Walks.{users_own, users_child, users_all}
use Rattle.radix_node.proofs.node.Node.+recorded.Goals as goal
use Rattle.radix_node.proofs.node.Node.+recorded.Goals.{in-Own, in-Child}

pub index-requires : goal.index-requires
index-requires g t c =
    let full = c.self.invariant.full in
    omega (arith, along_in c.slots.invariant.0 c.slots-test.true, full)

pub overflow_mul-k : goal.overflow_mul-k
overflow_mul-k g t c =
    omega (arith, slot_fits c.slots.invariant.0 c.slots-test.true)

pub part_in-part-requires-clause-starts : goal.part_in-part-requires-clause-starts
part_in-part-requires-clause-starts g t c = let l = c.slots.invariant.0 in rw l.width_is (along_below l c.slots-test.true)

pub part_in-part-requires-clause-ends : goal.part_in-part-requires-clause-ends
part_in-part-requires-clause-ends g t c = let l = c.slots.invariant.0 in rw l.width_is l.past

pub part_in-part-requires-clause-wide : goal.part_in-part-requires-clause-wide
part_in-part-requires-clause-wide g t c = let l = c.slots.invariant.0 in rw l.width_is (width_pos c.self.inside.level)

pub part_in-part-requires-clause-small : goal.part_in-part-requires-clause-small
part_in-part-requires-clause-small g t c = slot_fits c.slots.invariant.0 c.slots-test.true

pub recorded-requires : goal.recorded-requires
recorded-requires g t c κs within =
    let l = c.slots.invariant.0 in
    let down = along_down _ c.in-Child.node c.deref.result.now l c.slots-test.true c.self.invariant (sym c.in-Child.is
    ∙ c.index.ensures) c.deref.ensures c.part_in-part.ensures.within in
    let lower = down.falls in
    let last = down.within in
    let here = ap (λ (v : Parts). v.level) c.self.view_is in
    let p = c.part_in-part.ensures in
    search rules

pub slots-preserved : goal.slots-preserved
slots-preserved g t c =
    let l = c.slots.invariant.0 in
    let low = along_below l c.slots-test.true in (
      along_next l refl,
      elim c.match-index.branch [
        | in-Own w ↦ users_own _ w.in-Own.state c.args.first c.args.end c.slots.cores c.match-index.cores c.self.invariant
            (along_in l c.slots-test.true) (sym w.in-Own.is ∙ c.index.ensures) l.some l.past low
            (λ core. ap (λ n. members n core) w.cores-is ∙ ap (λ f. f core) w.union-cores.ensures
            ∙ ap (λ f. members c.slots.cores core || f core) w.cores.ensures) c.slots.invariant.1
        | in-Child w ↦ users_child _ w.in-Child.node c.args.first c.args.end w.part_in-part.result.first w.part_in-part.result.end
            c.slots.cores w.recorded.result c.match-index.cores c.self.invariant (along_in l c.slots-test.true) (sym w.in-Child.is
            ∙ c.index.ensures)
            (along_part l w.part_in-part.ensures.first w.part_in-part.ensures.end)
            (λ core. ap (λ n. members n core) w.cores-is ∙ ap (λ f. f core) w.union-cores-in-Child.ensures)
            (λ core. subst (λ v. (members w.recorded.result core ≡ true)
            ↔ HasUser (runs v) w.part_in-part.result.first w.part_in-part.result.end core) w.deref.ensures (w.recorded.ensures core))
            c.slots.invariant.1
      ],
    )

pub returns : goal.returns
returns g t c = λ core.
    rw (← c.self.view_is) (users_all _ c.args.first c.args.end _ c.slots.cores c.slots.invariant.1
    (along_done c.slots.invariant.0 (omega (arith, c.slots-test.false))) core)
