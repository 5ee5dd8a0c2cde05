use Rattle.slot_lock.proofs.Words.{arith, members}
use Rattle.radix_node.specs.Node.{runs}
use Rattle.radix_range.proofs.Walks.{of_root, users_are}
use Rattle.radix_range.proofs.walk.recorded.Goals as goal

pub recorded-requires-clause-within : goal.recorded-requires-clause-within
recorded-requires-clause-within g c = of_root c.args.root.now c.requires.tree c.args.range.end (omega (arith, c.requires.range.high))

pub returns : goal.returns
returns g c = λ core. users_are (runs c.args.root.now) c.args.range core (members c.recorded.result core) (c.recorded.ensures core)
