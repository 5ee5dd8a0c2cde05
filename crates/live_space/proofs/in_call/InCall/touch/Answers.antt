use Rattle.std.proofs.Common.{◌≡◌, None, rules, refl, inl, arith, ap, ◌∙◌}
use Rattle.seats.proofs.Growing.{grew_none}
use Rattle.live_tree.specs.Held.{HeldView}
use Rattle.live_pages.proofs.Ending.{ends_after, ends_next}
use Rattle.live_space.specs.Answering.{IsFault}
use Rattle.live_space.specs.Planned.{EndsIn}
use Rattle.live_space.proofs.Ended.{faults_touch, none_at}
use Rattle.live_space.proofs.Never.{byte_never}
use Rattle.live_space.proofs.Noted.{goes_then, goes_trans, grew_once, room_tried}
use Rattle.live_space.proofs.in_call.InCall.touch.Goals as goal

pub invariant_of-self : goal.invariant_of-self
invariant_of-self g c =
    let room = c.if-not-has_room.ensures.room (search rules) in
    let tried = room_tried c.args.touch _ _ _ c.try_touch.ensures in
    record { room = omega (arith, room, tried) }

pub returns-in-Served-clause-runs : goal.returns-in-Served-clause-runs
returns-in-Served-clause-runs g c =
    let before = goes_trans _ _ _ c.tries.invariant.goes c.has_room.ensures.goes in
    let never = byte_never c.args.touch.access c.in-Served.ensures.1.0 _ c.in-Served.ensures.1.1 in
    (before.same_reference, ends_after _ _ _ _ before.grew (ends_next _ _ _ c.in-Served.ensures.0 never))

pub returns-in-Served-clause-answers : goal.returns-in-Served-clause-answers
returns-in-Served-clause-answers g c = inl c.in-Served.ensures.1

pub returns-in-Lost-clause-runs : goal.returns-in-Lost-clause-runs
returns-in-Lost-clause-runs g c = goes_then _ _ _ (goes_trans _ _ _ c.tries.invariant.goes c.has_room.ensures.goes) refl (grew_none _ _ c.in-Lost.ensures)

pub returns-in-Some-fault-clause-runs : goal.returns-in-Some-fault-clause-runs
returns-in-Some-fault-clause-runs g c = goes_trans _ _ _ (goes_then _ _ _ (goes_trans _ _ _ c.tries.invariant.goes c.has_room.ensures.goes) refl
    (grew_once _ _ c.in-Fault.ensures)) c.fault.ensures.goes

pub returns-in-Some-fault-clause-answers : goal.returns-in-Some-fault-clause-answers
returns-in-Some-fault-clause-answers g c =
    let faults : EndsIn IsFault c.in-Some-fault.ending = search rules in
    faults_touch _ _ faults

pub tries-preserved : goal.tries-preserved
tries-preserved g c = record {
  goes = goes_trans _ _ _ (goes_then _ _ _ (goes_trans _ _ _ c.tries.invariant.goes c.has_room.ensures.goes) refl (grew_once _ _ c.in-Fault.ensures))
      c.fault.ensures.goes;
  none = (let is : c.fault.result ≡ None = search rules in none_at c.fault.result is c.fault.ensures.none);
}

pub returns-in-Served-clause-none : goal.returns-in-Served-clause-none
returns-in-Served-clause-none g c = ap (λ (h : HeldView). h.slots) c.has_room.ensures.held ∙ c.tries.invariant.none
