use Rattle.litmus_merges.specs.Steps.{map_of}
use Rattle.litmus_merges.proofs.Turned.{touch_fits}
use Rattle.litmus_merges.proofs.turning.access_turn.Goals as goal

pub returns : goal.returns
returns g c =
    let t = map_of c.args.objects.now c.args.steps.now in
    touch_fits t c.args.touch c.look-seen.result c.shown_byte-byte.result c.touch_turn.result c.look-seen.ensures
    (c.shown_byte-byte.ensures (t.entry c.args.touch.page) c.look-seen.ensures) c.touch_turn.ensures
