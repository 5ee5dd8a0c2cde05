use Rattle.std.proofs.Common.{refl}
use Rattle.core_steps.proofs.rows.Framing.{at_read}
use Rattle.core_steps.proofs.engine.Engine.stands.Goals as goal

pub returns : goal.returns
returns g c = at_read c.args.self.now.calls.phases.items (λ e. e) c.requires.here c.requires.here c.requires.well c.index.ensures.value c.index-2.ensures refl
