use Rattle.std.proofs.Common.{subst}
use Rattle.std.specs.Prelude.{OnOk}
use Rattle.core_steps.specs.Machine.{state}
use Rattle.trace.specs.EventRuns.{Asks}
use Rattle.trace.specs.Gives.{Gives}
use Rattle.trace.specs.Seen.{Sees}
use Rattle.trace_text.specs.declared.line.Line.TheVariants.{Now}
use Rattle.trace.proofs.EventLines.{load_asked, store_asked}
use Rattle.trace.proofs.event_lines.tell_access.Goals as goal

pub returns-then-access-clause-ok : goal.returns-then-access-clause-ok
returns-then-access-clause-ok g c =
    subst (λ q. OnOk c.tell_store.result (Gives g.M.SlotMap.can_fold g.M.SlotMap.folds (state c.args.machine.now) (Now c.args.core q)
    (state c.tell_store.new.machine) c.tell_store.new.text.bytes)) (store_asked c.args.access c.if-access.true) c.tell_store.ensures.ok

pub returns-then-access-clause-seen : goal.returns-then-access-clause-seen
returns-then-access-clause-seen g c =
    subst (λ q. OnOk c.tell_store.result (Sees g.X.Watch.after c.args.watch.now (state c.args.machine.now) (Asks (Now c.args.core q))
    (state c.tell_store.new.machine) c.tell_store.new.watch c.tell_store.new.text.bytes)) (store_asked c.args.access c.if-access.true) c.tell_store.ensures.seen

pub returns-clause-ok : goal.returns-clause-ok
returns-clause-ok g c =
    subst (λ q. OnOk c.tell_load.result (Gives g.M.SlotMap.can_fold g.M.SlotMap.folds (state c.args.machine.now) (Now c.args.core q)
    (state c.tell_load.new.machine) c.tell_load.new.text.bytes)) (load_asked c.args.access c.if-access.false) c.tell_load.ensures.ok

pub returns-clause-seen : goal.returns-clause-seen
returns-clause-seen g c =
    subst (λ q. OnOk c.tell_load.result (Sees g.X.Watch.after c.args.watch.now (state c.args.machine.now) (Asks (Now c.args.core q))
    (state c.tell_load.new.machine) c.tell_load.new.watch c.tell_load.new.text.bytes)) (load_asked c.args.access c.if-access.false) c.tell_load.ensures.seen
