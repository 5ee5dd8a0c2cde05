use Rattle.std.proofs.Common.{rules}
use Rattle.core_steps.specs.Machine.{state}
use Rattle.trace.proofs.replayer.Replayer.act_on_call.Goals as goal

pub returns-in-Ok-clause-ok : goal.returns-in-Ok-clause-ok
returns-in-Ok-clause-ok g c = (state c.in-Some.machine, state c.tell_call.new.machine, search rules, c.in-Ok.ensures.ok, search rules)
