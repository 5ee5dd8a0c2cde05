use Rattle.slot_lock.proofs.Words.{rules, ◌≡◌, ◌<◌, List, map, length, set, refl, ap, sym, subst, ◌∙◌, arith, All, IsSome, length-set, take_all, All-set}
use Rattle.live_levels.specs.Slots.{SlotView}
use Rattle.live_tree.specs.Guards.{slot_of}
use Rattle.live_tree.specs.Held.{HasRoom, without_room}
use Rattle.live_tree.proofs.Refilled.{refilled}
use Rattle.live_tree.proofs.Rooms.{All-take-set, alike_length, one_alike}
use Rattle.live_tree.proofs.held.reserve.reserve_all.Goals as goal

pub guards-init : goal.guards-init
guards-init g c = record {
  same = refl;
  room = λ k d lt. absurd (omega arith);
  some = rw c.as_mut_slice-guard-items.ensures.value c.requires.some;
}

pub returns-in_err-reserve_at-clause-some : goal.returns-in_err-reserve_at-clause-some
returns-in_err-reserve_at-clause-some g c =
    let items = c.guards.guard-items in
    let new = c.reserve_at.new.guard in
    let same : length (set items c.guards.guard-index new) ≡ length c.args.guards.now.items =
    length-set items c.guards.guard-index new ∙ (alike_length items _ c.guards.invariant.same ∙ ap length c.as_mut_slice-guard-items.ensures.value) in
    rw (refilled c.args.guards.now.items (set items c.guards.guard-index new) same)
    (All-set IsSome items c.guards.guard-index new c.reserve_at.ensures.some c.guards.invariant.some)

pub returns-in_err-reserve_at-clause-same : goal.returns-in_err-reserve_at-clause-same
returns-in_err-reserve_at-clause-same g c =
    let items = c.guards.guard-items in
    let new = c.reserve_at.new.guard in
    let same : length (set items c.guards.guard-index new) ≡ length c.args.guards.now.items =
    length-set items c.guards.guard-index new ∙ (alike_length items _ c.guards.invariant.same ∙ ap length c.as_mut_slice-guard-items.ensures.value) in
    rw (refilled c.args.guards.now.items (set items c.guards.guard-index new) same)
    (one_alike items _ c.guards.guard-index c.guard-item.result new (omega arith) c.guard-item.is (c.reserve_at.ensures.same
    ∙ ap (λ z. without_room (slot_of z)) (sym c.guard-item.is))
    (c.guards.invariant.same ∙ ap (λ l. map without_room (map slot_of l)) c.as_mut_slice-guard-items.ensures.value))

pub guards-preserved : goal.guards-preserved
guards-preserved g c =
    let items = c.guards.guard-items in
    let i = c.guards.guard-index in
    let new = c.reserve_at.new.guard in
    let lt : i < length items = omega arith in
    record {
      same = one_alike items _ i c.guard-item.result new lt c.guard-item.is (c.reserve_at.ensures.same
          ∙ ap (λ z. without_room (slot_of z)) (sym c.guard-item.is)) c.guards.invariant.same;
      room = All-take-set slot_of (HasRoom c.args.range) items i new lt c.guards.invariant.room (search rules);
      some = All-set IsSome items i new c.reserve_at.ensures.some c.guards.invariant.some;
    }

pub returns-clause-room : goal.returns-clause-room
returns-clause-room g c =
    let items = c.guards.guard-items in
    let same : length items ≡ length c.args.guards.now.items = alike_length items _ c.guards.invariant.same
    ∙ ap length c.as_mut_slice-guard-items.ensures.value in
    let P : List SlotView → Type 0 = All (HasRoom c.args.range) in
    rw (refilled c.args.guards.now.items items same)
    (subst (λ l. P (map slot_of l)) (take_all c.guards.guard-index items (omega arith)) c.guards.invariant.room)
