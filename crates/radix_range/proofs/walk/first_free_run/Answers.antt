use Rattle.std.proofs.Common.{arith}
use Rattle.radix_range.specs.Tree.{tree_slots}
use Rattle.radix_range.proofs.Mapped.{least_in_front, only_in_rest, least_in_rest, none_in_rest}
use Rattle.radix_range.proofs.walk.first_free_run.Goals as goal

pub returns-in-Some-clause-least : goal.returns-in-Some-clause-least
returns-in-Some-clause-least g c =
    least_in_front (tree_slots c.args.root.now) c.args.range c.max-first.result c.args.n c.in-Some.start c.in-Some.ensures.found
    c.in-Some.ensures.least

pub returns-in-None-clause-least : goal.returns-in-None-clause-least
returns-in-None-clause-least g c =
    least_in_rest (tree_slots c.args.root.now) c.args.range c.min-end.result c.args.n c.free_run-in-None.result
    (only_in_rest (tree_slots c.args.root.now) c.args.full c.args.range c.max-first.result c.min-end.result c.args.n c.requires.full
    (omega (arith, c.max-first.ensures)) (omega (arith, c.min-end.ensures)) c.requires.some c.if-end-first.false c.in-None.ensures.none)
    c.free_run-in-None.ensures.least

pub returns-in-None-clause-none : goal.returns-in-None-clause-none
returns-in-None-clause-none g c =
    none_in_rest (tree_slots c.args.root.now) c.args.range c.min-end.result c.args.n c.free_run-in-None.result
    (only_in_rest (tree_slots c.args.root.now) c.args.full c.args.range c.max-first.result c.min-end.result c.args.n c.requires.full
    (omega (arith, c.max-first.ensures)) (omega (arith, c.min-end.ensures)) c.requires.some c.if-end-first.false c.in-None.ensures.none)
    c.free_run-in-None.ensures.none
