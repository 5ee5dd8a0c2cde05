use Rattle.std.proofs.Common.{◌+◌, ◌*◌, ap, ◌∙◌, arith}
use Rattle.radix_node.specs.State.{state_of, state_from}
use Rattle.radix_node.specs.Run.{width_of}
use Rattle.radix_node.proofs.Flat.{whole-node}
use Rattle.radix_node.proofs.Divided.{carries-more, carries-IsNode, owns-divided}
use Rattle.radix_node.proofs.node.Node.divided.Goals as goal

pub slots-preserved : goal.slots-preserved
slots-preserved g c =
    let w = c.slot_pages-width.ensures in
    let is = c.advanced.ensures ∙ ap (λ n. state_from (state_of c.args.state.now) (c.slots.k * n)) w in (
      carries-more (width_of c.args.level) c.slots.k (c.slots.k + 1) (state_of c.args.state.now) c.slots.slots.items _ c.advanced.result
          c.slots.invariant.0 c.push_reserved.ensures.items is (omega arith),
      w,
      omega arith,
    )

pub invariant_of-result : goal.invariant_of-result
invariant_of-result g c =
    carries-IsNode c.args.level c.slots.k (state_of c.args.state.now) c.slots.slots.items c.requires.level
    (record { no_leaf = c.requires.large; fits = c.requires.fits }) (omega arith) c.slots.invariant.0

pub returns-clause-is : goal.returns-clause-is
returns-clause-is g c =
    ap (λ ps. record { level = c.args.level; parts = ps })
    (owns-divided (width_of c.args.level) c.slots.k (state_of c.args.state.now) _ c.slots.invariant.0.parts (omega arith))

pub returns-clause-whole : goal.returns-clause-whole
returns-clause-whole g c = whole-node c.args.level c.slots.slots.items (invariant_of-result g c)
