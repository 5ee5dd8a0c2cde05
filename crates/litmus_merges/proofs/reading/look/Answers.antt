use Rattle.std.proofs.Common.{◌∙◌, ap, sym}
use Rattle.vm_base.specs.Plain.{Plain}
use Rattle.litmus_merges.specs.Seen.{shown}
use Rattle.litmus_merges.proofs.Maps.{map_more}
use Rattle.litmus_merges.proofs.reading.look.Goals as goal

pub steps-preserved : goal.steps-preserved
steps-preserved g c = c.seen_after-seen.ensures ∙ ap (λ (t : Plain). shown c.args.spot.offset (t.entry c.args.spot.page))
    (sym (map_more c.args.objects.now c.args.steps.now c.steps.at _ c.steps-test.true))
