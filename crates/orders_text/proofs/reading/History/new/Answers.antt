use Rattle.std.proofs.Common.{rules, refl, ap, length}
use Rattle.orders_text.proofs.ReadLemmas.{none_read}
use Rattle.orders_text.proofs.reading.History.new.Goals as goal

pub returns-clause-read : goal.returns-clause-read
returns-clause-read g c = none_read _ _ _ _ _ c.new-declaration.ensures.declared refl c.in_ok-waiting.ensures (search rules) (search rules)

pub returns-clause-few : goal.returns-clause-few
returns-clause-few g c = c.new-declaration.ensures.few

pub returns-clause-places : goal.returns-clause-places
returns-clause-places g c = ap length c.in_ok-waiting.ensures
