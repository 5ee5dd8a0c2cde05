use Rattle.std.proofs.Common.{option_map, rules, subst}
use Rattle.std.specs.Prelude.{OnOk}
use Rattle.core_steps.specs.Machine.{state}
use Rattle.trace.specs.Seen.{SeesEvent}
use Rattle.trace.specs.Stage.{stage_of}
use Rattle.trace_text.specs.declared.line.Line.TheVariants.{Now}
use Rattle.trace.proofs.replayer.Replayer.act_on_access.Goals as goal

pub returns-in-Ok-clause-ok : goal.returns-in-Ok-clause-ok
returns-in-Ok-clause-ok g c = (state c.in-Some.machine, state c.tell_access.new.machine, search rules, c.in-Ok.ensures.ok, search rules)

pub returns-in-None-clause-seen : goal.returns-in-None-clause-seen
returns-in-None-clause-seen g c =
    subst (λ q. OnOk c.act_on_first_event.result (SeesEvent g.X.Watch.after
    (stage_of c.args.self.now.limit c.args.self.now.declaration (option_map state c.args.self.now.machine)) c.args.self.now.watch
    (Now c.args.core q) (stage_of c.act_on_first_event.new.self.limit c.act_on_first_event.new.self.declaration
    (option_map state c.act_on_first_event.new.self.machine)) c.act_on_first_event.new.self.watch c.act_on_first_event.new.text.bytes))
    c.request.ensures c.act_on_first_event.ensures.seen
