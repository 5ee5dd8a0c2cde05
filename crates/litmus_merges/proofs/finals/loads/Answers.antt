use Rattle.std.proofs.lemmas.Result.{IfOk-from_err}
use Rattle.litmus_merges.proofs.finals.loads.Goals as goal

pub returns-in_err-clone : goal.returns-in_err-clone
returns-in_err-clone g c = IfOk-from_err _ _ c.from_residual.ensures.0

pub returns-in_err-replies : goal.returns-in_err-replies
returns-in_err-replies g c = IfOk-from_err _ _ c.from_residual-in_err-replies.ensures.0

pub returns-in_err-push : goal.returns-in_err-push
returns-in_err-push g c = IfOk-from_err _ _ c.from_residual-in_err-push.ensures.0
