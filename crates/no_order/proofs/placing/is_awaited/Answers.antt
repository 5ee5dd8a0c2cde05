use Rattle.std.proofs.Common.{◌≡◌, arith, false, true}
use Rattle.no_order.proofs.placing.is_awaited.Goals as goal

pub returns-then-number-call : goal.returns-then-number-call
returns-then-number-call c = (λ h. let wrong : false ≡ true = h in absurd cc, λ w. absurd (w.another c.if-number-call.true))

pub returns-then-begin-other : goal.returns-then-begin-other
returns-then-begin-other c = (
  λ h. let wrong : false ≡ true = h in absurd cc,
  λ w. let early = c.if-begin-other.true in let ended = w.ended in absurd (omega (arith, early, ended)),
)
