use Rattle.core_steps.proofs.at_once.FaultAtOnce.{can_try}
use Rattle.core_steps.proofs.engine.Engine.go_try.Goals as goal

pub try_touch-reply-requires : goal.try_touch-reply-requires
try_touch-reply-requires g c = can_try _ c.args.core c.args.touch _ _ c.requires
