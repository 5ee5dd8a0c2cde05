use Rattle.std.proofs.Common.{rules}
use Rattle.core_steps.proofs.rows.Framing.{at_read}
use Rattle.core_steps.proofs.Reached.{well, steps_reached}
use Rattle.core_steps.proofs.engine.Engine.steps_at_once.Goals as goal

pub lock_at_once-requires-clause-at : goal.lock_at_once-requires-clause-at
lock_at_once-requires-clause-at g c =
    at_read c.args.self.now.calls.phases.items (λ e. e) (search rules) (search rules) (well _ c.requires) c.index.ensures.value c.index-2.ensures
    c.in-Lock.is

pub unlock_slots-requires-clause-at : goal.unlock_slots-requires-clause-at
unlock_slots-requires-clause-at g c =
    at_read c.args.self.now.calls.phases.items (λ e. e) (search rules) (search rules) (well _ c.requires) c.index.ensures.value c.index-2.ensures
    c.in-Unlock.is

pub returns-in-Lock-clause-reached : goal.returns-in-Lock-clause-reached
returns-in-Lock-clause-reached g c = steps_reached _ _ c.args.core _ c.lock_at_once.ensures.steps c.requires

pub returns-in-Unlock-clause-reached : goal.returns-in-Unlock-clause-reached
returns-in-Unlock-clause-reached g c = steps_reached _ _ c.args.core _ c.unlock_slots.ensures.steps c.requires
