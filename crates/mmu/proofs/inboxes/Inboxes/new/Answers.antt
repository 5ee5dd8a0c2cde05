use Rattle.std.proofs.Common.{arith}
use Rattle.std.proofs.lemmas.Result.{IfOk-from_err}
use Rattle.mmu.proofs.inboxes.Inboxes.new.Goals as goal

pub returns-in_err-inboxes-clause-cores : goal.returns-in_err-inboxes-clause-cores
returns-in_err-inboxes-clause-cores g c = IfOk-from_err _ _ c.from_residual.ensures.0

pub returns-in_err-inboxes-clause-empty : goal.returns-in_err-inboxes-clause-empty
returns-in_err-inboxes-clause-empty g c = IfOk-from_err _ _ c.from_residual.ensures.0

pub push_reserved-requires : goal.push_reserved-requires
push_reserved-requires g c =
    let i = c.cores.invariant in
    omega (arith, i.count, i.room, c.cores-test.true)
