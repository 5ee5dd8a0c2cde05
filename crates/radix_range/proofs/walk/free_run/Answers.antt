use Rattle.std.proofs.Common.{subst, arith}
use Rattle.radix_node.specs.Node.{runs}
use Rattle.radix_node.specs.Walk.{FindsRun}
use Rattle.radix_range.proofs.Walks.{of_root, free_run_least, free_run_none}
use Rattle.radix_range.proofs.walk.free_run.Goals as goal

pub free_run-requires-clause-within : goal.free_run-requires-clause-within
free_run-requires-clause-within g c = of_root c.args.root.now c.requires.tree c.args.range.end (omega (arith, c.requires.high))

pub returns-in-Found-clause-least : goal.returns-in-Found-clause-least
returns-in-Found-clause-least g c =
    free_run_least (runs c.args.root.now) c.args.range c.args.n c.in-Found.start
    (subst (λ r. FindsRun (runs c.args.root.now) 0 c.args.range.first c.args.range.end c.args.n c.args.range.first r) c.in-Found.is c.free_run.ensures)

pub returns-in-Open-clause-none : goal.returns-in-Open-clause-none
returns-in-Open-clause-none g c =
    free_run_none (runs c.args.root.now) c.args.range c.args.n c.in-Open.field-0
    (subst (λ r. FindsRun (runs c.args.root.now) 0 c.args.range.first c.args.range.end c.args.n c.args.range.first r) c.in-Open.is c.free_run.ensures)
