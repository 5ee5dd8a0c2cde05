use Rattle.core_steps.proofs.Reached.{well}
use Rattle.core_steps.proofs.machine.Machine.may_change.Goals as goal

pub next_changes-requires : goal.next_changes-requires
next_changes-requires g c = well _ c.args.self.now.reached
