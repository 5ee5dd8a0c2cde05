use Rattle.coded.proofs.Holdings.{held_legal}
use Rattle.coded.proofs.held.AnyMachineWhole.core_count.Goals as goal

pub returns-in-Plain-clause-legal : goal.returns-in-Plain-clause-legal
returns-in-Plain-clause-legal c = held_legal c.args.self.now

pub returns-in-Logged-clause-legal : goal.returns-in-Logged-clause-legal
returns-in-Logged-clause-legal c = held_legal c.args.self.now
