use Rattle.std.proofs.Common.{subst}
use Rattle.shared.specs.Cores.{Agrees, IsBeside}
use Rattle.shared.proofs.Keeping.{closes, loses}
use Rattle.shared.proofs.space.SharedMachine.close.Goals as goal

pub returns-then-word-eq-OUT-clause-lost : goal.returns-then-word-eq-OUT-clause-lost
returns-then-word-eq-OUT-clause-lost g c = subst (IsBeside g.S.Whole.state) c.core.view_is
    (loses g.S.Whole.state _ c.core.inside.seat.table_id _ c.core.inside.seat.me.0 _ _ c.word-word.result c.core.invariant.2 c.core.invariant.1
    c.close_with-closed.ensures.values.2 c.word-word.ensures c.if-word-eq-OUT.true)

pub returns-else-word-eq-OUT-clause-back : goal.returns-else-word-eq-OUT-clause-back
returns-else-word-eq-OUT-clause-back g c = subst (Agrees g.S.Whole.state c.take-machine.result) c.core.view_is
    (closes g.S.Whole.state _ c.core.inside.seat.table_id _ c.core.inside.seat.me.0 _ _ c.take-machine.result c.word-word.result c.core.invariant.2
    c.close_with-closed.ensures.values.2 c.word-word.ensures c.if-word-eq-OUT.false c.take-machine.ensures.value)
