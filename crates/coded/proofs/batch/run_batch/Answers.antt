use Rattle.coded.proofs.Batching.{ran}
use Rattle.coded.proofs.batch.run_batch.Goals as goal

pub returns : goal.returns
returns c =
    ran c.args.setup.now c.args.files.now c.args.bytes.now c.args.raws.now c.args.told.now c.run_events.result _ _ _ c.in_ok-machine.ensures.ok
    c.run_events.ensures.runs c.run_events.ensures.stops
