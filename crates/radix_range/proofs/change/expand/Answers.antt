use Rattle.std.proofs.Common.{arith}
use Rattle.radix_node.specs.Node.{runs}
use Rattle.slot_lock.proofs.Facts.{ok_along}
use Rattle.radix_range.proofs.Expansions.{several, tree_expanded, expanded-IsRadix, divides_at, divides_as, same_or_expanded}
use Rattle.radix_range.proofs.change.expand.Goals as goal

pub expand_at-requires-clause-large : goal.expand_at-requires-clause-large
expand_at-requires-clause-large g c = several (runs c.args.root.now) c.args.page c.requires.crossed

pub returns-clause-tree : goal.returns-clause-tree
returns-clause-tree g c =
    same_or_expanded c.expand_at.result
    (λ ok. expanded-IsRadix c.args.root.now c.expand_at.new.self c.requires.tree c.args.page
    (tree_expanded c.args.root.now c.expand_at.new.self c.requires.tree c.args.page (omega (arith, c.requires.page.1))
    (several (runs c.args.root.now) c.args.page c.requires.crossed) ok) c.expand_at.ensures.level c.expand_at.ensures.whole)
    (λ err. rw err c.requires.tree)
    c.expand_at.ensures.ok c.expand_at.ensures.err

pub returns-clause-ok : goal.returns-clause-ok
returns-clause-ok g c =
    ok_along c.expand_at.result
    (λ ok. divides_at c.args.root.now c.expand_at.new.self c.requires.tree c.args.page c.requires.page
    (tree_expanded c.args.root.now c.expand_at.new.self c.requires.tree c.args.page (omega (arith, c.requires.page.1))
    (several (runs c.args.root.now) c.args.page c.requires.crossed) ok))
    c.expand_at.ensures.ok

pub returns-clause-exact : goal.returns-clause-exact
returns-clause-exact g c =
    ok_along c.expand_at.result
    (λ ok. divides_as (runs c.args.root.now) (runs c.expand_at.new.self) c.args.page c.requires.crossed
    (tree_expanded c.args.root.now c.expand_at.new.self c.requires.tree c.args.page (omega (arith, c.requires.page.1))
    (several (runs c.args.root.now) c.args.page c.requires.crossed) ok))
    c.expand_at.ensures.ok
