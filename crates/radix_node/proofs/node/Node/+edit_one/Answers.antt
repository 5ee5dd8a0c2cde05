use Rattle.std.proofs.Common.{◌≡◌, ◌+◌, refl, sym, ap, ◌∙◌, rules}
use Rattle.radix_node.specs.Run.{cell_at}
use Rattle.radix_node.specs.Node.{Parts, runs}
use Rattle.radix_node.proofs.Flat.{IsPlace, whole-node, child_level, child_pages}
use Rattle.radix_node.proofs.Edits.{Narrow}
use Rattle.radix_node.proofs.OnePage.{own_one, child_one, child_alone, narrow_one}
use Rattle.radix_node.proofs.node.Node.+edit_one.Goals as goal
use Rattle.radix_node.proofs.node.Node.+edit_one.Goals.{Joined-index_mut, in-Own, in-Child}

pub edit_one-requires : goal.edit_one-requires
edit_one-requires g t c κs within =
    let p = c.place_of-place.ensures in
    let at : IsPlace c.self.inside.level c.args.page _ _ = record { slot_in = p.slot; page_is = p.page; rest_in = p.rest } in
    let begins = ap (λ v. (cell_at (runs v) c.args.page).offset) c.self.view_is ∙ c.requires.begins in
    let ends = ap (λ v. (cell_at (runs v) (c.args.page + 1)).offset) c.self.view_is ∙ c.requires.ends in
    let is = sym c.in-Child.is ∙ c.index_mut.ensures.value in
    let e = c.deref_mut.ensures.value in
    let w = child_pages _ c.in-Child.node c.deref_mut.result.now c.self.invariant p.slot is e in
    let lower = child_level _ c.in-Child.node c.deref_mut.result.now c.self.invariant p.slot is e in
    let here = ap (λ (v : Parts). v.level) c.self.view_is in
    let alone = child_alone _ c.in-Child.node c.deref_mut.result.now c.self.invariant at is e begins ends in
    let starts = alone.begins in
    let stops = alone.ends in
    search rules

-- the slot that has the page was edited in its place
narrow : (g : _) (t : _) (c : Joined-index_mut g t) → (c.match-index_mut.self-inside.level ≡ c.self.inside.level)
    × Narrow c.self.inside.level c.self.inside.slots.items c.match-index_mut.self-inside.slots.items c.args.page (c.args.page + 1)
    0 c.args.edit.now
narrow g t c =
    let p = c.place_of-place.ensures in
    let at : IsPlace c.self.inside.level c.args.page _ _ = record { slot_in = p.slot; page_is = p.page; rest_in = p.rest } in
    let begins = ap (λ v. (cell_at (runs v) c.args.page).offset) c.self.view_is ∙ c.requires.begins in
    let ends = ap (λ v. (cell_at (runs v) (c.args.page + 1)).offset) c.self.view_is ∙ c.requires.ends in
    elim c.match-index_mut.branch [
      | in-Own w ↦
          rw w.self-inside-is (
            refl,
            own_one _ w.in-Own.state w.edit.new.self c.args.edit.now c.self.invariant at
                (sym w.in-Own.is ∙ c.index_mut.ensures.value) begins ends c.requires.sound w.edit.ensures,
          )
      | in-Child w ↦
          rw w.self-inside-is (
            refl,
            child_one _ w.in-Child.node (record w.in-Child.node { value = w.edit_one.new.self })
                w.deref_mut.result.now c.args.edit.now c.self.invariant at
                (sym w.in-Child.is ∙ c.index_mut.ensures.value) w.deref_mut.ensures.value
                w.edit_one.ensures.level w.edit_one.ensures.whole
                (record { here = w.edit_one.ensures.here; others = w.edit_one.ensures.others }),
          )
    ]

pub invariant_of-self : goal.invariant_of-self
invariant_of-self g t c = let (same, h) = narrow g t c in rw same h.node

pub returns-clause-whole : goal.returns-clause-whole
returns-clause-whole g t c =
    whole-node c.match-index_mut.self-inside.level _ (invariant_of-self g t c)

pub returns-clause-here : goal.returns-clause-here
returns-clause-here g t c =
    let (same, h) = narrow g t c in
    rw (same, ← c.self.view_is) (narrow_one c.args.edit.now h).here

pub returns-clause-others : goal.returns-clause-others
returns-clause-others g t c =
    let (same, h) = narrow g t c in
    rw (same, ← c.self.view_is) (narrow_one c.args.edit.now h).others
