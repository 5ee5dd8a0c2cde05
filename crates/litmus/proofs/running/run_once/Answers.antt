use Rattle.litmus.proofs.LaneLemmas.{own_lanes}
use Rattle.litmus.proofs.running.run_once.Goals as goal

pub play-requires-after_bounds : goal.play-requires-after_bounds
play-requires-after_bounds g c κs within =
    own_lanes c.in-Ok.live c.in_ok-lanes.lanes.items c.as_mut_slice.result.now c.in-Ok.seats.items c.in_ok-lanes.ensures c.in-Ok.ensures.own
    c.as_mut_slice.ensures.value
