use Rattle.coded.proofs.Batching.{made_on}
use Rattle.coded.proofs.batch.calls_batch.Goals as goal

pub returns : goal.returns
returns c =
    made_on c.args.setup.now c.args.files.now c.args.bytes.now c.args.raws.now c.args.told.now c.make_items.result _ _ _ c.in_ok-machine.ensures.ok
    c.make_items.ensures.makes c.make_items.ensures.legal
