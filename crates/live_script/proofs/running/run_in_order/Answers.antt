use Rattle.std.proofs.Common.{arith}
use Rattle.live_space.specs.Space.{IsOf}
use Rattle.live_script.proofs.TurnLemmas.{all_end, end_more, next_is}
use Rattle.live_script.proofs.running.run_in_order.Goals as goal

pub run_lane-requires : goal.run_lane-requires
run_lane-requires g c = next_is (λ lane. IsOf c.args.live.now lane.seat) _ _ _ _ _ _ c.cores.invariant c.requires c.cores-test.true

pub cores-preserved : goal.cores-preserved
cores-preserved g c =
    end_more _ _ _ _ _ c.index-lanes-core.result c.run_lane.new.lane _ c.cores.invariant c.cores-test.true c.tasks.ensures c.run_lane.ensures

pub returns : goal.returns
returns g c = all_end _ _ _ _ _ c.cores.invariant (omega (arith, c.cores-test.false))
