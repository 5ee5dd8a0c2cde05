use Rattle.std.proofs.Common.{[]}
use Rattle.std.proofs.lemmas.List.Elements.{All-nil, All-same, All-get_or}
use Rattle.radix_range.specs.Tight.{IsTight}
use Rattle.radix_range.proofs.tight.with.Goals as goal

pub left-init : goal.left-init
left-init c = λ s a b. All-same (IsTight s) c.new-all.result.items [] c.new-all.ensures (All-nil (IsTight s))

pub left-preserved : goal.left-preserved
left-preserved c = λ s a b. c.add.ensures s (c.left.invariant s a b)
    (All-get_or (IsTight s) c.args.tights.now c.left.k _ c.left-test.true a)

pub right-init : goal.right-init
right-init c = λ s a b. c.add-2.ensures s (c.left.invariant s a b) b

pub right-preserved : goal.right-preserved
right-preserved c = λ s a b. c.add-in-right.ensures s (c.right.invariant s a b)
    (All-get_or (IsTight s) c.args.tights.now c.right.k _ c.right-test.true a)

pub returns : goal.returns
returns c = c.right.invariant
