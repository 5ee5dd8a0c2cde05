use Rattle.live_script.proofs.KeptLemmas.{ran_kept}
use Rattle.live_script.proofs.LaneLemmas.{own_in, ran_least, ran_whole}
use Rattle.live_script.proofs.running.finish_side_by_side.Goals as goal

pub run_side_by_side-requires-after_bounds : goal.run_side_by_side-requires-after_bounds
run_side_by_side-requires-after_bounds g c κs within =
    own_in c.args.script.now.asked c.args.ran c.ran.inside.live c.ran.inside.lanes.items _ c.ran.view_is c.requires c.as_mut_slice.ensures.value

pub returns-in-Some-clause-fault : goal.returns-in-Some-clause-fault
returns-in-Some-clause-fault g c =
    ran_least c.args.script.now c.args.ran c.ran.inside.live c.ran.inside.lanes.items c.as_mut_slice.result.now c.run_side_by_side.new.lanes
    c.ran.inside.lanes.len c.ran.view_is c.requires c.as_mut_slice.ensures.value c.as_mut_slice.ensures.len c.run_side_by_side.ensures
    c.as_slice.result.now c.first_fault.result c.as_slice.ensures.value c.first_fault.ensures _ c.in-Some.is

pub returns-in-None-clause-ran : goal.returns-in-None-clause-ran
returns-in-None-clause-ran g c =
    ran_whole c.args.script.now c.args.ran c.ran.inside.live c.ran.inside.lanes.items c.as_mut_slice.result.now c.run_side_by_side.new.lanes
    c.ran.inside.lanes.len c.ran.view_is c.requires c.as_mut_slice.ensures.value c.as_mut_slice.ensures.len c.run_side_by_side.ensures
    c.as_slice.result.now c.first_fault.result c.as_slice.ensures.value c.first_fault.ensures c.in-None.is

pub invariant_of-ran : goal.invariant_of-ran
invariant_of-ran g c =
    ran_kept c.args.script.now c.args.ran c.ran.inside.live c.ran.inside.lanes.items c.as_mut_slice.result.now c.run_side_by_side.new.lanes
    c.ran.inside.lanes.len c.ran.view_is c.requires c.as_mut_slice.ensures.value c.as_mut_slice.ensures.len c.run_side_by_side.ensures c.ran.invariant
