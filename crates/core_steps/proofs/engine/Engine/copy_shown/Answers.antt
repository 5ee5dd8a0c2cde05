use Rattle.std.proofs.Common.{refl}
use Rattle.core_steps.proofs.engine.Engine.copy_shown.Goals as goal

pub dec-requires-clause-used : goal.dec-requires-clause-used
dec-requires-clause-used g c = c.requires.can.used _ c.begin.ensures.step

pub returns : goal.returns
returns g c = (
  _,
  (_, c.begin.ensures.step, c.dec.ensures.step),
  rw (
    c.log_copy.ensures.log,
    c.log_copy.ensures.cores,
    c.log_copy.ensures.limit,
    c.copy.ensures.bytes,
    c.copy.ensures.free,
    c.copy.ensures.count,
    c.take.ensures.bytes,
    c.take.ensures.free,
    c.take.ensures.count,
    c.invalidate.ensures.after,
  ) refl,
)
