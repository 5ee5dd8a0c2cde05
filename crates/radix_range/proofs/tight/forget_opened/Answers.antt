use Rattle.radix_range.specs.Tree.{tree_slots}
use Rattle.radix_range.specs.Tight.{IsTightBeside}
use Rattle.std.proofs.lemmas.List.Elements.{All-same}
use Rattle.radix_range.proofs.tight.forget_opened.Goals as goal

pub forget-requires-clause-tights : goal.forget-requires-clause-tights
forget-requires-clause-tights g c =
    All-same (IsTightBeside (tree_slots c.args.root.now) c.args.range) c.as_slice.result.now c.args.tights.now.items c.as_slice.ensures.value
    c.requires.tights
