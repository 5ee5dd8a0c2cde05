use Rattle.core_steps.proofs.Reached.{legal}
use Rattle.shared.proofs.machine.MachineWhole.core_count.Goals as goal

pub returns-clause-legal : goal.returns-clause-legal
returns-clause-legal g c = legal _ c.args.self.now.reached
