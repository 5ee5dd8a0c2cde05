use Rattle.std.proofs.Common.{arith}
use Rattle.std.proofs.lemmas.List.{length-take}
use Rattle.overlapping.proofs.StoryLemmas.{few_first}
use Rattle.overlapping.proofs.story.story_behind.Goals as goal

pub slice_bounds-push_calls-end : goal.slice_bounds-push_calls-end
slice_bounds-push_calls-end g c = omega (arith, c.requires.few, few_first c.args.calls.now, length-take c.args.count c.args.calls.now)
