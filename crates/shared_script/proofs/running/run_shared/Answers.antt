use Rattle.std.proofs.Common.{ap, [], ◌∷◌, ◌-◌, refl}
use Rattle.machine_model.specs.World.{Made}
use Rattle.shared_script.proofs.LaneLemmas.{fresh_at, least_fails, seen_done, seen_least}
use Rattle.shared_script.proofs.running.run_shared.Goals as goal

pub gather-requires-clause-done : goal.gather-requires-clause-done
gather-requires-clause-done g c =
    let made = c.in-Ok.ensures.ok in
    let fresh = fresh_at g.S.Whole.state _ c.in-Ok.space.table.shared.table_id (c.args.machine ∷ []) _ _ _ made.1
    (ap (λ (m : Made). m.cores - 1) c.requires.made)
    c.in-Ok-lanes_of.ensures in (
      c.args.machine ∷ [],
      c.requires.made,
      seen_done g.S.Whole.state c.in-Ok-lanes_of.lanes.items _ _ _ _ _ c.as_mut_slice.ensures.value c.as_mut_slice.ensures.len c.run_side_by_side.ensures
          c.as_slice.ensures.value _ _ _ _ c.requires.new fresh c.last_stop.ensures c.in-None.is,
    )

pub returns-in-Some-clause-fails : goal.returns-in-Some-clause-fails
returns-in-Some-clause-fails g c =
    let made = c.in-Ok.ensures.ok in
    let fresh = fresh_at g.S.Whole.state _ c.in-Ok.space.table.shared.table_id (c.args.machine ∷ []) _ _ _ made.1
    (ap (λ (m : Made). m.cores - 1) c.requires.made)
    c.in-Ok-lanes_of.ensures in
    least_fails g.S.Whole.state c.args.script.now c.in-Ok.space.table.shared.table_id c.args.machine _ c.requires.made c.requires.new refl c.requires.cores
    c.in-Some.fault
    (seen_least g.S.Whole.state c.in-Ok-lanes_of.lanes.items _ _ _ _ _ c.as_mut_slice.ensures.value c.as_mut_slice.ensures.len c.run_side_by_side.ensures
    c.as_slice.ensures.value _ _ _ _ _ fresh c.last_stop.ensures c.in-Some.is)
