-- meta_of
use Rattle.litmus_merges.specs.Steps.{map_of}
use Rattle.litmus_merges.proofs.Mapped.{meta_seen, unseen}
use Rattle.litmus_merges.proofs.mappings.meta_of.Goals as goal

pub returns-in-None : goal.returns-in-None
returns-in-None g c = unseen ((map_of c.args.objects.now c.args.steps.now).entry c.args.page) 0 c.in-None.ensures

pub returns-in-Some : goal.returns-in-Some
returns-in-Some g c = meta_seen ((map_of c.args.objects.now c.args.steps.now).entry c.args.page) 0 c.in-Some.seen c.in-Some.ensures
