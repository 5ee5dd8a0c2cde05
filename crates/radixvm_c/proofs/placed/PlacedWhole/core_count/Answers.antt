use Rattle.coded.proofs.Holdings.{held_legal}
use Rattle.radixvm_c.proofs.placed.PlacedWhole.core_count.Goals as goal

pub returns-clause-legal : goal.returns-clause-legal
returns-clause-legal c = held_legal c.args.self.now.held.value
