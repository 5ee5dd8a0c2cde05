use Rattle.machine_model.proofs.Words.{on_err_weaker}
use Rattle.std.proofs.lemmas.Result.{IfOk-weaker}
use Rattle.core_steps.specs.Machine.{state}
use Rattle.watched.proofs.Watched.{call_part_unwatched, call_unwatched}
use Rattle.watched.proofs.unwatched.UnwatchedWatch.call.Goals as goal

pub returns-clause-watched : goal.returns-clause-watched
returns-clause-watched g c = IfOk-weaker c.call.result _ _
    (λ f h. call_unwatched c.args.self.now (state c.args.machine.now) c.args.core c.args.request f (state c.call.new.self) h) c.call.ensures.ends

pub returns-clause-part : goal.returns-clause-part
returns-clause-part g c = on_err_weaker c.call.result
    (λ h. call_part_unwatched g.L.Ledger.keeps c.args.self.now (state c.args.machine.now) c.args.core c.args.request (state c.call.new.self) h) c.call.ensures.err
