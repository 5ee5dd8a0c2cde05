use Rattle.std.proofs.Common.{sym, ap, ◌∙◌, arith}
use Rattle.radix_node.specs.Run.{Cell, cell_at}
use Rattle.radix_node.specs.Node.{runs}
use Rattle.radix_node.proofs.Flat.{IsPlace, cell_at-Own, cell_at-Child, child_pages}
use Rattle.radix_node.proofs.node.Node.descend.Goals as goal

pub levels-preserved : goal.levels-preserved
levels-preserved g c =
    let p = c.place_of-place.ensures in
    let at : IsPlace _ c.levels.rest _ _ = record { slot_in = p.slot; page_is = p.page; rest_in = p.rest } in
    let is = sym c.in-Child.is ∙ c.index.ensures in
    let w = child_pages _ c.in-Child.below c.deref-node.result.now c.node.invariant p.slot is c.deref-node.ensures in (
      omega (arith, w, p.rest),
      ap (λ v. cell_at (runs v) c.place_of-place.result.rest) c.deref-node.ensures
          ∙ sym (cell_at-Child _ c.in-Child.below c.node.invariant at is)
          ∙ ap (λ v. cell_at (runs v) c.levels.rest) c.node.view_is
          ∙ c.levels.invariant.1,
    )

pub returns-in-Own-clause-state : goal.returns-in-Own-clause-state
returns-in-Own-clause-state g c =
    let p = c.place_of-place.ensures in
    let at : IsPlace _ c.levels.rest _ _ = record { slot_in = p.slot; page_is = p.page; rest_in = p.rest } in
    let own = cell_at-Own _ c.in-Own.state c.node.invariant at (sym c.in-Own.is ∙ c.index.ensures) in
    sym (ap (λ (x : Cell). x.state) (sym c.levels.invariant.1 ∙ ap (λ v. cell_at (runs v) c.levels.rest) (sym c.node.view_is) ∙ own))

pub returns-in-Own-clause-offset : goal.returns-in-Own-clause-offset
returns-in-Own-clause-offset g c =
    let p = c.place_of-place.ensures in
    let at : IsPlace _ c.levels.rest _ _ = record { slot_in = p.slot; page_is = p.page; rest_in = p.rest } in
    let own = cell_at-Own _ c.in-Own.state c.node.invariant at (sym c.in-Own.is ∙ c.index.ensures) in
    sym (ap (λ (x : Cell). x.offset) (sym c.levels.invariant.1 ∙ ap (λ v. cell_at (runs v) c.levels.rest) (sym c.node.view_is) ∙ own))

pub returns-in-Own-clause-width : goal.returns-in-Own-clause-width
returns-in-Own-clause-width g c =
    let p = c.place_of-place.ensures in
    let at : IsPlace _ c.levels.rest _ _ = record { slot_in = p.slot; page_is = p.page; rest_in = p.rest } in
    let own = cell_at-Own _ c.in-Own.state c.node.invariant at (sym c.in-Own.is ∙ c.index.ensures) in
    c.slot_pages.ensures ∙ sym (ap (λ (x : Cell). x.width) (sym c.levels.invariant.1 ∙ ap (λ v. cell_at (runs v) c.levels.rest) (sym c.node.view_is) ∙ own))
