use Rattle.core_steps.proofs.Reached.{legal}
use Rattle.shared.proofs.Beside.{aside_steps}
use Rattle.shared.proofs.machine.MachineWhole.step_aside.Goals as goal

pub returns-clause-steps : goal.returns-clause-steps
returns-clause-steps g c = (aside_steps _ c.args.core c.args.aside _ _ _
    (legal _ c.args.self.now.reached) c.requires.calm c.event.ensures c.in-Ok.ensures.step).0

pub returns-clause-calm : goal.returns-clause-calm
returns-clause-calm g c = (aside_steps _ c.args.core c.args.aside _ _ _
    (legal _ c.args.self.now.reached) c.requires.calm c.event.ensures c.in-Ok.ensures.step).1
