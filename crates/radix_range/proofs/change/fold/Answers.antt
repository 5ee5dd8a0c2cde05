use Rattle.std.proofs.Common.{arith}
use Rattle.radix_range.proofs.Expansions.{tree_folded, folded-IsRadix, folded-Joins}
use Rattle.radix_range.proofs.NodeFolds.{folds_node, can_join}
use Rattle.slot_lock.proofs.Facts.{by_answer, is_answer}
use Rattle.radix_range.proofs.change.fold.Goals as goal

pub returns-clause-tree : goal.returns-clause-tree
returns-clause-tree g c = by_answer c.fold_at.result
    (λ yes. folded-IsRadix c.args.root.now c.fold_at.new.self c.requires.tree c.args.page
    (tree_folded c.args.root.now c.fold_at.new.self c.requires.tree c.args.page
    (omega (arith, c.requires.page.1)) c.fold_at.ensures.level c.fold_at.ensures.whole (c.fold_at.ensures.folded yes))
    c.fold_at.ensures.level c.fold_at.ensures.whole)
    (λ no. rw (c.fold_at.ensures.same no) c.requires.tree)

pub returns-clause-joined : goal.returns-clause-joined
returns-clause-joined g c = λ yes.
    let e = tree_folded c.args.root.now c.fold_at.new.self c.requires.tree c.args.page
    (omega (arith, c.requires.page.1)) c.fold_at.ensures.level c.fold_at.ensures.whole (c.fold_at.ensures.folded yes) in
    folded-Joins c.args.root.now c.fold_at.new.self
    (folded-IsRadix c.args.root.now c.fold_at.new.self c.requires.tree c.args.page e c.fold_at.ensures.level c.fold_at.ensures.whole)
    c.args.page c.requires.page.1 (c.fold_at.ensures.folded yes).plain e

pub returns-clause-exact : goal.returns-clause-exact
returns-clause-exact g c = λ yes.
    folds_node c.args.root.now c.fold_at.new.self c.args.page (c.fold_at.ensures.folded yes).plain
    (tree_folded c.args.root.now c.fold_at.new.self c.requires.tree c.args.page
    (omega (arith, c.requires.page.1)) c.fold_at.ensures.level c.fold_at.ensures.whole (c.fold_at.ensures.folded yes))

pub returns-clause-can : goal.returns-clause-can
returns-clause-can g c = is_answer c.fold_at.result
    (λ yes. (folds_node c.args.root.now c.fold_at.new.self c.args.page (c.fold_at.ensures.folded yes).plain
    (tree_folded c.args.root.now c.fold_at.new.self c.requires.tree c.args.page
    (omega (arith, c.requires.page.1)) c.fold_at.ensures.level c.fold_at.ensures.whole (c.fold_at.ensures.folded yes))).could)
    (λ no can. c.fold_at.ensures.only no (can_join c.args.root.now c.requires.tree c.args.page can))
