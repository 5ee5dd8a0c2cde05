use Rattle.std.proofs.Common.{arith}
use Rattle.radix_range.specs.Tree.{tree_slots}
use Rattle.radix_range.proofs.NoRoom.{found_in, least_in, passed, found_among, least_among, none_among}
use Rattle.radix_range.proofs.tight.first_free_run.Goals.{then-tight-n+then-from-tight+then-tight+in_default, else-tight-n}
use Rattle.radix_range.proofs.tight.first_free_run.Goals as goal

pub tights-init : goal.tights-init
tights-init g c = (omega arith, λ r f. f.inside.low)

pub returns-in-Some-clause-found : goal.returns-in-Some-clause-found
returns-in-Some-clause-found g c =
    found_in (tree_slots c.args.root.now) c.args.range c.args.n c.tights.from c.in-Some.start c.tights.invariant.0 c.in-Some.ensures.found

pub returns-in-Some-clause-least : goal.returns-in-Some-clause-least
returns-in-Some-clause-least g c =
    least_in (tree_slots c.args.root.now) c.args.range c.args.n c.tights.from c.in-Some.start c.tights.invariant.1 c.in-Some.ensures.least

pub tights-preserved : goal.tights-preserved
tights-preserved g c = elim c.if-tight-n.branch [
  | then-tight-n+then-from-tight+then-tight+in_default w ↦ rw w.from-is (
    omega (arith, w.if-from-tight.true, c.tights.invariant.0),
    passed (tree_slots c.args.root.now) c.args.range c.args.n c.tights.from _ c.tights.invariant.1 w.in_default.ensures.none,
  )
  | else-tight-n w ↦ rw w.from-is c.tights.invariant
]

pub returns-clause-found : goal.returns-clause-found
returns-clause-found g c =
    found_among (tree_slots c.args.root.now) c.args.range c.args.n c.tights.from c.args.range.end c.first_free_run.result
    c.tights.invariant.0 (omega arith) c.first_free_run.ensures.found

pub returns-clause-least : goal.returns-clause-least
returns-clause-least g c =
    least_among (tree_slots c.args.root.now) c.args.range c.args.n c.tights.from c.args.range.end c.first_free_run.result
    c.tights.invariant.1 c.first_free_run.ensures.found c.first_free_run.ensures.least

pub returns-clause-none : goal.returns-clause-none
returns-clause-none g c =
    none_among (tree_slots c.args.root.now) c.args.range c.args.n c.tights.from c.first_free_run.result
    c.tights.invariant.1 c.first_free_run.ensures.none
