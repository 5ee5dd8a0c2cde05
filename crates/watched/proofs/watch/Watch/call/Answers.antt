use Rattle.machine_model.proofs.Words.{◌≡◌, rules, IfOk-weaker, on_err_weaker}
use Rattle.machine_model.specs.declared.event.Outcome.TheVariants.{Stepped}
use Rattle.std.specs.Prelude.{◌≢◌}
use Rattle.core_steps.specs.Machine.{state}
use Rattle.watched.proofs.Watched.{call_finished, call_not_begun, call_refused, call_watched, call_watched_end, call_watched_part}
use Rattle.watched.proofs.watch.Watch.call.Goals as goal

pub returns-then-ne-clause-ends : goal.returns-then-ne-clause-ends
returns-then-ne-clause-ends g c =
    let other : c.in-Ok.outcome ≢ Stepped = search rules in
    call_not_begun (state c.args.machine.now) (state c.step.new.machine) c.args.core c.args.request c.in-Ok.outcome other c.in-Ok.ensures.step

pub returns-then-ne-clause-watched : goal.returns-then-ne-clause-watched
returns-then-ne-clause-watched g c =
    let other : c.in-Ok.outcome ≢ Stepped = search rules in
    call_watched_end g.Self.Watch.after c.args.core c.args.request c.in-Ok.outcome c.args.self.now c.step.new.self (state c.args.machine.now)
    (state c.step.new.machine) other c.in-Ok.ensures.step c.in-Ok.ensures.watched

pub returns-clause-ends : goal.returns-clause-ends
returns-clause-ends g c =
    let plain : c.in-Ok.outcome ≡ Stepped = search rules in
    IfOk-weaker c.finish.result _ _ (λ f h. call_finished (state c.args.machine.now) (state c.step.new.machine)
    (state c.finish.new.machine) c.args.core c.args.request c.in-Ok.outcome f plain c.in-Ok.ensures.step h) c.finish.ensures.ends

pub returns-clause-err : goal.returns-clause-err
returns-clause-err g c =
    let plain : c.in-Ok.outcome ≡ Stepped = search rules in
    on_err_weaker c.finish.result (λ h. call_refused g.L.Ledger.keeps (state c.args.machine.now) (state c.step.new.machine)
    (state c.finish.new.machine) c.args.core c.args.request c.in-Ok.outcome plain c.in-Ok.ensures.step h) c.finish.ensures.err

pub returns-clause-watched : goal.returns-clause-watched
returns-clause-watched g c =
    let plain : c.in-Ok.outcome ≡ Stepped = search rules in
    IfOk-weaker c.finish.result _ _ (λ f h. call_watched g.Self.Watch.after c.args.core c.args.request c.in-Ok.outcome f c.args.self.now c.step.new.self
    c.finish.new.self (state c.args.machine.now) (state c.step.new.machine)
    (state c.finish.new.machine) plain c.in-Ok.ensures.step c.in-Ok.ensures.watched h) c.finish.ensures.watched

pub returns-clause-part : goal.returns-clause-part
returns-clause-part g c =
    let plain : c.in-Ok.outcome ≡ Stepped = search rules in
    on_err_weaker c.finish.result (λ h. call_watched_part g.Self.Watch.after c.args.core c.args.request c.in-Ok.outcome c.args.self.now c.step.new.self
    c.finish.new.self (state c.args.machine.now) (state c.step.new.machine)
    (state c.finish.new.machine) plain c.in-Ok.ensures.step c.in-Ok.ensures.watched h) c.finish.ensures.part
