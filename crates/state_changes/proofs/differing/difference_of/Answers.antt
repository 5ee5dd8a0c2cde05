use Rattle.std.proofs.Common.{arith}
use Rattle.std.proofs.lemmas.Bool.Decides.{nat_tests}
use Rattle.state_changes.proofs.Parts.{way_ends, way_on}
use Rattle.state_changes.proofs.differing.difference_of.Goals as goal

pub parts-preserved : goal.parts-preserved
parts-preserved c = record {
  way = way_on c.next_part-part.result _ _ _ _ _ _ _ _ _ _ _ _ _ _ c.next_part-part.ensures c.parts.invariant.way
      c.in_ok-push.ensures.items c.in_ok-extend_from_slice.ensures.items c.fresh.ensures c.split_at.ensures.front
      c.taken.ensures c.split_at-in-parts.ensures.back c.given.ensures c.split_at-in-parts-2.ensures.back;
}

pub returns : goal.returns
returns c = way_ends _ _ _ _ _ _ (grind (arith, nat_tests, c.is_empty.ensures, c.if-not-is_empty.false))
    (grind (arith, nat_tests, c.is_empty-else-not-is_empty.ensures, c.if-not-is_empty-2.false)) c.parts.invariant.way
