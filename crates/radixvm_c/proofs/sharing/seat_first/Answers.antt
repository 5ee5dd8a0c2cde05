use Rattle.std.proofs.Common.{ap, ◌∙◌}
use Rattle.radixvm_c.specs.declared.placed.Placed.{Placed}
use Rattle.radixvm_c.proofs.Refusing.{cannot_share}
use Rattle.radixvm_c.proofs.sharing.seat_first.Goals as goal

pub returns-in-Err-clause-err : goal.returns-in-Err-clause-err
returns-in-Err-clause-err c = (
  c.kept_from.ensures.0 ∙ ap (λ (p : Placed). p.held) c.in-Err.ensures.err.0,
  cannot_share c.args.held.value _ _ c.in-Err.ensures.err.1 c.kept_from.ensures.1,
)
