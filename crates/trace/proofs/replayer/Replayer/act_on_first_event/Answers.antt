use Rattle.std.proofs.Common.{option_map, subst, sym}
use Rattle.core_steps.specs.Machine.{state}
use Rattle.trace.specs.Stage.{Opens, stage_of}
use Rattle.trace.proofs.EventLines.{acted, not_acted}
use Rattle.trace.proofs.Seeing.{event_seen}
use Rattle.trace.proofs.replayer.Replayer.act_on_first_event.Goals as goal

pub returns-clause-ok : goal.returns-clause-ok
returns-clause-ok g c =
    acted c.watch_line-done.result c.args.line (stage_of c.args.self.now.limit c.args.self.now.declaration (option_map state c.args.self.now.machine))
    (state c.in-Ok.machine) (state c.watch_line-done.new.machine) c.watch_line-done.new.text.bytes
    (subst (λ m. Opens (stage_of c.args.self.now.limit c.args.self.now.declaration (option_map state m)) (state c.in-Ok.machine))
    (sym c.requires) c.in-Ok.ensures.ok)
    c.watch_line-done.ensures.ok

pub returns-clause-err : goal.returns-clause-err
returns-clause-err g c =
    not_acted g.L.Ledger.keeps c.watch_line-done.result c.args.line
    (stage_of c.args.self.now.limit c.args.self.now.declaration (option_map state c.args.self.now.machine)) (state c.in-Ok.machine) c.args.number
    (subst (λ m. Opens (stage_of c.args.self.now.limit c.args.self.now.declaration (option_map state m)) (state c.in-Ok.machine))
    (sym c.requires) c.in-Ok.ensures.ok)
    c.watch_line-done.ensures.err

pub returns-clause-seen : goal.returns-clause-seen
returns-clause-seen g c =
    event_seen c.watch_line-done.result g.X.Watch.after c.args.line
    (stage_of c.args.self.now.limit c.args.self.now.declaration (option_map state c.args.self.now.machine)) (state c.in-Ok.machine)
    (state c.watch_line-done.new.machine) c.args.self.now.watch c.watch_line-done.new.watch c.watch_line-done.new.text.bytes
    (subst (λ m. Opens (stage_of c.args.self.now.limit c.args.self.now.declaration (option_map state m)) (state c.in-Ok.machine))
    (sym c.requires) c.in-Ok.ensures.ok)
    c.watch_line-done.ensures.seen
