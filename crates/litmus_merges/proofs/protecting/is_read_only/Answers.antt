use Rattle.std.proofs.Common.{◌∙◌}
use Rattle.frames.specs.Files.{files_of}
use Rattle.litmus_merges.specs.Steps.{map_of}
use Rattle.litmus_merges.proofs.Maps.{modes_kept}
use Rattle.litmus_merges.proofs.Pages.{back_read_only, none_read_only}
use Rattle.litmus_merges.proofs.protecting.is_read_only.Goals as goal

pub returns-in-None : goal.returns-in-None
returns-in-None g c =
    let t = map_of c.args.objects.now c.args.steps.now in
    none_read_only t.file (t.entry c.args.page) 0 c.in-None.ensures

pub returns-in-Some : goal.returns-in-Some
returns-in-Some g c =
    let t = map_of c.args.objects.now c.args.steps.now in
    c.is_read_only_back.ensures
    ∙ back_read_only t (files_of c.args.objects.now) (t.entry c.args.page) 0 c.in-Some.seen (modes_kept c.args.objects.now c.args.steps.now) c.in-Some.ensures
