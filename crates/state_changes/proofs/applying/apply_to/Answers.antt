use Rattle.std.proofs.Common.{take, drop, refl, ap, ◌∙◌, arith}
use Rattle.state_changes.specs.declared.part.DiffOp.TheVariants.{Keep}
use Rattle.state_changes.proofs.Parts.{part_applied}
use Rattle.state_changes.proofs.applying.apply_to.Goals as goal

pub parts-preserved : goal.parts-preserved
parts-preserved c = record {
  within = omega (arith, c.parts-test.true);
  same = part_applied c.args.parts.now c.parts.at (Keep 0) _ _ _ _ _ _ _ _ _ _ _ c.parts-test.true refl
      (c.cut.ensures.front ∙ ap (λ n. take n c.parts.rest.now) c.kept.ensures)
      (c.cut-in-parts.ensures.front ∙ ap (λ n. take n c.parts.fresh.now) c.fresh.ensures)
      (c.cut-in-parts.ensures.rest ∙ ap (λ n. drop n c.parts.fresh.now) c.fresh.ensures)
      (c.cut-in-parts-2.ensures.rest ∙ ap (λ n. drop n c.parts.rest.now) c.taken.ensures)
      c.in_ok-extend_from_slice.ensures.items c.in_ok-extend_from_slice-2.ensures.items c.parts.invariant.same;
}
