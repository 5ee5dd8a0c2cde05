use Rattle.machine_model.proofs.Words.{refl, ◌∙◌, length-set}
use Rattle.coded.proofs.Batching.{runs_none, runs_more, runs_still, stops_at}
use Rattle.coded.proofs.batch.run_events.Goals as goal

pub events-init : goal.events-init
events-init g c = record { runs = runs_none _ _ _; room = refl }

pub returns-in-Err-clause-runs : goal.returns-in-Err-clause-runs
returns-in-Err-clause-runs g c =
    runs_still g.L.Ledger.keeps _ _ c.events.at _ c.events.told _ _ _ _ c.in-Err.stop _ c.in-Err.ensures c.events.invariant.runs

pub returns-in-Err-clause-stops : goal.returns-in-Err-clause-stops
returns-in-Err-clause-stops g c = stops_at g.L.Ledger.keeps c.args.raws.now c.events.at _ _ _ _ c.in-Err.stop _ c.events-test.true c.in-Err.ensures

pub events-preserved : goal.events-preserved
events-preserved g c = record {
  runs = runs_more g.L.Ledger.keeps _ _ c.events.at _ c.events.told _ _ _ _ _ c.events-test.true c.requires c.in-Ok.ensures c.events.invariant.runs;
  room = length-set c.events.told c.events.at _ ∙ c.events.invariant.room;
}
