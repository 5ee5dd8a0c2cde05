use Rattle.std.proofs.Common.{[], arith}
use Rattle.std.proofs.lemmas.List.Elements.{All-nil, All-same}
use Rattle.radix_range.specs.Tree.{tree_slots}
use Rattle.radix_range.specs.Tight.{IsTight}
use Rattle.radix_range.proofs.NoRoom.{still_before, still_behind}
use Rattle.radix_range.proofs.tight.forget.Goals as goal

pub tights-init : goal.tights-init
tights-init g c = All-same (IsTight (tree_slots c.args.root.now)) c.new-rest.result.items [] c.new-rest.ensures
    (All-nil (IsTight (tree_slots c.args.root.now)))

pub tights-preserved : goal.tights-preserved
tights-preserved g c =
    let s = tree_slots c.args.root.now in
    c.add-in-tights.ensures s
    (c.add.ensures s c.tights.invariant
    (still_before s c.opened-opened.result _ c.min.result c.opened-opened.ensures (omega (arith, c.min.ensures)) (omega (arith, c.min.ensures))))
    (still_behind s c.opened-opened.result _ c.max.result c.opened-opened.ensures (omega (arith, c.max.ensures)) (omega (arith, c.max.ensures)))

pub returns : goal.returns
returns g c = c.tights.invariant
