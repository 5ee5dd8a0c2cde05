use Rattle.core_steps.specs.Machine.{state}
use Rattle.core_steps.proofs.Reached.{well}
use Rattle.core_steps.proofs.rows.Known.{core_counted}
use Rattle.core_steps.proofs.machine.Machine.delta.Goals as goal

pub delta-requires : goal.delta-requires
delta-requires g c = core_counted (state c.args.self.now) c.args.core (well (state c.args.self.now) c.args.self.now.reached) c.requires
