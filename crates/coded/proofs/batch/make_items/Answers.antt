use Rattle.machine_model.proofs.Words.{refl, ◌∙◌, length-set}
use Rattle.coded.proofs.Batching.{makes_none, makes_more, makes_still}
use Rattle.coded.proofs.batch.make_items.Goals as goal

pub items-init : goal.items-init
items-init g c = record { makes = makes_none _ _ _; room = refl; legal = λ h. h }

pub returns-in-Err-clause-makes : goal.returns-in-Err-clause-makes
returns-in-Err-clause-makes g c =
    makes_still g.L.Ledger.keeps _ _ c.items.at _ c.items.told _ _ _ _ c.in-Err.stop _ c.items-test.true c.in-Err.ensures.takes c.items.invariant.makes

pub items-preserved : goal.items-preserved
items-preserved g c = record {
  makes = makes_more g.L.Ledger.keeps _ _ c.items.at _ c.items.told _ _ _ _ _ c.items-test.true c.requires c.in-Ok.ensures.takes c.items.invariant.makes;
  room = length-set c.items.told c.items.at _ ∙ c.items.invariant.room;
  legal = λ h. c.in-Ok.ensures.legal (c.items.invariant.legal h);
}
