use Rattle.std.proofs.Common.{◌∙◌, Some, ap}
use Rattle.std.proofs.lemmas.Result.{IfOk-from_err}
use Rattle.litmus_merges.proofs.Lists.{get_here, not_told}
use Rattle.litmus_merges.proofs.ending.all_told.Goals as goal

pub returns-in_default-clause-none : goal.returns-in_default-clause-none
returns-in_default-clause-none g c = λ replies e.
    not_told c.args.told.now c.calls.k (get_here c.args.told.now c.calls.k _ c.calls-test.true ∙ ap Some c.in_default.is) replies e

pub returns-in_err-clone-clause-some : goal.returns-in_err-clone-clause-some
returns-in_err-clone-clause-some g c = IfOk-from_err _ _ c.from_residual.ensures.0

pub returns-in_err-clone-clause-none : goal.returns-in_err-clone-clause-none
returns-in_err-clone-clause-none g c = IfOk-from_err _ _ c.from_residual.ensures.0

pub returns-in_err-replies-clause-some : goal.returns-in_err-replies-clause-some
returns-in_err-replies-clause-some g c = IfOk-from_err _ _ c.from_residual-in_err-replies.ensures.0

pub returns-in_err-replies-clause-none : goal.returns-in_err-replies-clause-none
returns-in_err-replies-clause-none g c = IfOk-from_err _ _ c.from_residual-in_err-replies.ensures.0

pub returns-in_err-push-clause-some : goal.returns-in_err-push-clause-some
returns-in_err-push-clause-some g c = IfOk-from_err _ _ c.from_residual-in_err-push.ensures.0

pub returns-in_err-push-clause-none : goal.returns-in_err-push-clause-none
returns-in_err-push-clause-none g c = IfOk-from_err _ _ c.from_residual-in_err-push.ensures.0
