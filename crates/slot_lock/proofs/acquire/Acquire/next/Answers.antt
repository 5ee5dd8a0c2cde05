use Rattle.std.proofs.lemmas.Result.{IfOk-from_err}
use Rattle.slot_lock.proofs.acquire.Acquire.next.Goals as goal

pub returns-in_err-got-clause-step : goal.returns-in_err-got-clause-step
returns-in_err-got-clause-step g c = IfOk-from_err _ _ c.from_residual.ensures.0

pub returns-in_err-got-clause-cursor : goal.returns-in_err-got-clause-cursor
returns-in_err-got-clause-cursor g c = IfOk-from_err _ _ c.from_residual.ensures.0
