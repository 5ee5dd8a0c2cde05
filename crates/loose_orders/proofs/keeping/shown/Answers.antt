use Rattle.loose_orders.proofs.FoundLemmas.{anon_own, copied_own}
use Rattle.loose_orders.proofs.keeping.shown.Goals as goal

pub returns-in-Anon-clause-none : goal.returns-in-Anon-clause-none
returns-in-Anon-clause-none c = λ bytes. anon_own bytes _ _ c.in-Anon.is

pub returns-in-Some-clause-none : goal.returns-in-Some-clause-none
returns-in-Some-clause-none c = λ bytes. copied_own bytes _ _ _ _ _ c.in-Private.is c.in-Some.is
