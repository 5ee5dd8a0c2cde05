use Rattle.machine_model.proofs.Words.{arith, props, ∥∥₁_elim}
use Rattle.driven.proofs.driving.sender.Goals as goal

pub unreachable-requires : goal.unreachable-requires
unreachable-requires g c = ∥∥₁_elim c.requires (hlevel props) (λ h.
    let here = h.1 in
    let same = c.cores-index-end.ensures in
    let over = c.cores-test.false in
    c.cores.invariant h.0 (omega (arith, here, same, over)) h.2)
