use Rattle.machine_model.proofs.Words.{sym, ◌∙◌}
use Rattle.coded.proofs.Accesses.{fetch_item, load_item, store_item}
use Rattle.coded.proofs.batch.make_raw.Goals as goal

pub returns-in-4-clause-makes : goal.returns-in-4-clause-makes
returns-in-4-clause-makes g c = (_, load_item _ _ c.in-4.is (sym c.core_of.ensures ∙ c.in_ok-core.was), c.make-made.ensures.makes)

pub returns-in_ok-request-in-5-clause-makes : goal.returns-in_ok-request-in-5-clause-makes
returns-in_ok-request-in-5-clause-makes g c = (
  _,
  store_item _ _ _ c.in-5.is (sym c.core_of.ensures ∙ c.in_ok-core.was) (sym c.store_of.ensures ∙ c.in_ok-request-in-5.was),
  c.make-made-in-5.ensures.makes,
)

pub returns-in-6-clause-makes : goal.returns-in-6-clause-makes
returns-in-6-clause-makes g c = (_, fetch_item _ _ c.in-6.is (sym c.core_of.ensures ∙ c.in_ok-core.was), c.make-made-in-6.ensures.makes)
