use Rattle.core_steps.specs.Machine.{state}
use Rattle.core_steps.proofs.Reached.{well}
use Rattle.core_steps.proofs.rows.Known.{frame_counted}
use Rattle.core_steps.proofs.machine.Machine.is_dirty.Goals as goal

pub is_dirty-requires : goal.is_dirty-requires
is_dirty-requires g c = frame_counted (state c.args.self.now) c.args.frame (well (state c.args.self.now) c.args.self.now.reached) c.requires
