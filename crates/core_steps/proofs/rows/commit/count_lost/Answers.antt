use Rattle.std.proofs.Common.{None, arith, refl}
use Rattle.machine_model.proofs.CountingDown.{counts_from, counts_past}
use Rattle.core_steps.proofs.rows.commit.count_lost.Goals as goal

pub returns-in-Protect : goal.returns-in-Protect
returns-in-Protect g c =
    let range = c.in-Protect.range in
    let some = (rw c.in-Protect.is at c.requires.sound).some in
    rw c.in-Protect.is (counts_past c.args.core (λ p. None) range.first range.first range.end _ _ (omega arith) (omega (arith, some)) (λ p a b. refl)
    (counts_from c.args.core (λ p. None) range.first _))
