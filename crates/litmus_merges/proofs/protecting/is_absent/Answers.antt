use Rattle.litmus_merges.specs.Steps.{map_of}
use Rattle.litmus_merges.proofs.Pages.{none_absent, some_present}
use Rattle.litmus_merges.proofs.protecting.is_absent.Goals as goal

pub returns-in-None : goal.returns-in-None
returns-in-None g c = none_absent ((map_of c.args.objects.now c.args.steps.now).entry c.args.page) 0 c.in-None.ensures

pub returns-in-Some : goal.returns-in-Some
returns-in-Some g c = some_present ((map_of c.args.objects.now c.args.steps.now).entry c.args.page) 0 _ c.in-Some.ensures
