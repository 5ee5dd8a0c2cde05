use Rattle.std.proofs.Common.{◌≡◌, ℕ, ◌+◌, ◌*◌, ◌<◌, ◌≤◌, ◌∙◌, arith, refl, subst, true}
use Rattle.std.specs.Prelude.{cond}
use Rattle.vm_base.specs.Cores.{members}
use Rattle.seats.proofs.Growing.{grew_none, grew_trans}
use Rattle.live_pages.specs.Acking.{AcksIn}
use Rattle.live_pages.specs.Targets.{count_below}
use Rattle.live_pages.proofs.Acking.{one_more}
use Rattle.live_pages.proofs.Targets.{count_none, count_next, count_within, room_at}
use Rattle.live_pages.proofs.telling.take_all.Goals as goal

pub cores-init : goal.cores-init
cores-init g c = record {
  grew = grew_none _ _ refl;
  room = omega (arith, count_none c.args.set);
  acked = λ d lt m. absurd (omega arith);
  range = refl;
}

pub take_of-requires : goal.take_of-requires
take_of-requires g c = record {
  room = rw c.new.ensures (room_at c.args.set c.cores.index c.args.seat.now.room c.cores.seat.room c.cores-test.true c.requires.room c.cores.invariant.room);
}

pub cores-preserved : goal.cores-preserved
cores-preserved g c =
    let used : c.cores.seat.room ≤ c.take_of.new.seat.room + 126 * cond (members c.args.set c.cores.index) 1 0 =
    rw c.new.ensures at c.take_of.ensures.room in
    let acks : AcksIn c.args.set c.cores.index c.cores.acked c.in-Some.more = rw c.new.ensures at c.in-Some.ensures.acked in
    record {
      grew = grew_trans _ _ _ c.cores.invariant.grew c.take_of.ensures.grew;
      room = omega (arith, count_next c.args.set c.cores.index, used, c.cores.invariant.room);
      acked = one_more c.args.set c.cores.index c.cores.acked c.in-Some.more c.cores.invariant.acked acks;
      range = acks.range ∙ c.cores.invariant.range;
    }

pub returns-in_default-clause-grew : goal.returns-in_default-clause-grew
returns-in_default-clause-grew g c = grew_trans _ _ _ c.cores.invariant.grew c.take_of.ensures.grew

pub returns-in_default-clause-room : goal.returns-in_default-clause-room
returns-in_default-clause-room g c =
    let used : c.cores.seat.room ≤ c.take_of.new.seat.room + 126 * cond (members c.args.set c.cores.index) 1 0 =
    rw c.new.ensures at c.take_of.ensures.room in
    let lt : c.cores.index < 64 = c.cores-test.true in
    let within : count_below c.args.set (c.cores.index + 1) ≤ count_below c.args.set 64 = count_within c.args.set (c.cores.index + 1) 64 (omega (arith, lt)) in
    omega (arith, count_next c.args.set c.cores.index, within, used, c.cores.invariant.room)

pub returns-clause-room : goal.returns-clause-room
returns-clause-room g c =
    let end : c.cores.index ≡ 64 = omega arith in
    subst (λ n. c.args.seat.now.room ≤ c.cores.seat.room + 126 * count_below c.args.set n) end c.cores.invariant.room

pub returns-clause-acked : goal.returns-clause-acked
returns-clause-acked g c =
    let end : c.cores.index ≡ 64 = omega arith in
    record {
      each = λ d lt m. c.cores.invariant.acked d (omega (arith, end, lt)) m;
      range = c.cores.invariant.range;
    }
