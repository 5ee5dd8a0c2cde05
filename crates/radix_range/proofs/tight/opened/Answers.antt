use Rattle.std.proofs.Common.{arith}
use Rattle.radix_range.specs.Tree.{tree_slots}
use Rattle.radix_range.proofs.NoRoom.{nothing_opened, opened_from}
use Rattle.radix_range.proofs.tight.opened.Goals as goal

pub returns-in-Some : goal.returns-in-Some
returns-in-Some g c = opened_from (tree_slots c.args.root.now) c.args.range c.in-Some.start c.args.tight c.requires.tight
    (λ r l h free. c.in-Some.ensures.least r l (record {
      inside = record {
        low = omega (arith, h, c.saturating_sub-first.ensures);
        high = omega (arith, l, c.in-Some.ensures.found.inside.high);
      };
      free = free;
    }))

pub returns-in-None : goal.returns-in-None
returns-in-None g c = nothing_opened (tree_slots c.args.root.now) c.args.range (record { first = 0; end = 0 }) c.args.tight c.requires.tight
    (omega arith)
    (λ r l h u v free. c.in-None.ensures.none r (record {
      inside = record { low = omega (arith, u, c.saturating_sub-first.ensures); high = omega (arith, v) };
      free = free;
    }))
