use Rattle.std.proofs.Common.{rules, ◌≡◌, ◌+◌, ◌-◌, length}
use Rattle.std.proofs.lemmas.Result.{IfOk-from_err}
use Rattle.slot_lock.proofs.Adding.{first_in_rest}
use Rattle.slot_lock.proofs.lent.add.Goals as goal

pub begin-i-requires-clause-low : goal.begin-i-requires-clause-low
begin-i-requires-clause-low g c =
    let last : c.len-last.result - 2 + 2 ≡ length c.args.slots.now.items = search rules in
    rw c.reserve.ensures.items (first_in_rest _ c.requires.list _ _ _ _ last c.requires.can)

pub returns-in_err-reserve-clause-ok : goal.returns-in_err-reserve-clause-ok
returns-in_err-reserve-clause-ok g c = IfOk-from_err _ _ c.from_residual.ensures.0
