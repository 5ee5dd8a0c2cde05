use Rattle.core_steps.proofs.Reached.{legal}
use Rattle.core_steps.proofs.machine.Machine+M+A+KeepsAll+A.log.Goals as goal

pub returns-clause-legal : goal.returns-clause-legal
returns-clause-legal g c = legal _ c.args.self.now.reached
