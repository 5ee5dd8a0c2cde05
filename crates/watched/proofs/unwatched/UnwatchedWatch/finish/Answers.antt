use Rattle.machine_model.proofs.Words.{on_err_weaker}
use Rattle.std.proofs.lemmas.Result.{IfOk-weaker}
use Rattle.core_steps.specs.Machine.{state}
use Rattle.watched.proofs.Watched.{finish_unwatched, part_unwatched}
use Rattle.watched.proofs.unwatched.UnwatchedWatch.finish.Goals as goal

pub returns-clause-watched : goal.returns-clause-watched
returns-clause-watched g c = IfOk-weaker c.finish.result _ _
    (λ f h. finish_unwatched c.args.self.now (state c.args.machine.now) c.args.core f (state c.finish.new.self) h) c.finish.ensures.ends

pub returns-clause-part : goal.returns-clause-part
returns-clause-part g c = on_err_weaker c.finish.result
    (λ h. part_unwatched g.L.Ledger.keeps c.args.self.now (state c.args.machine.now) c.args.core (state c.finish.new.self) h) c.finish.ensures.err
