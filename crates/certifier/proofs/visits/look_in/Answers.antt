use Rattle.machine_model.proofs.Words.{◌≡◌, ◌≤◌, ◌∙◌, ap, arith, length, length-set}
use Rattle.live_levels.specs.declared.close.SlotHistory.{SlotHistory}
use Rattle.certifier.proofs.Looked.{beyond, caught_all, caught_more, look_set, look_there}
use Rattle.certifier.proofs.visits.look_in.Goals as goal

pub slots-init : goal.slots-init
slots-init g c = record {
  count = c.requires.count;
  looked = λ n maps le h. h;
  caught = λ k l low less. absurd (omega (arith, low, less));
}

pub returns-then-range-slots-clause-caught : goal.returns-then-range-slots-clause-caught
returns-then-range-slots-clause-caught g c =
    let past = c.if-range-slots.true in
    let first = ap (λ (s : SlotHistory g.row.A.Denot). s.first) c.index-slots-at.is in
    caught_all c.args.slots.now c.args.range c.slots.looks.items c.args.t c.first_after-from.result c.slots.at c.first_after-from.ensures.before
    c.slots.invariant.caught (beyond c.args.slots.now c.args.range c.slots.at c.index-slots-at.result c.requires.order c.slots-test.true c.index-slots-at.is
    (omega (arith, past, first)))

pub slots-preserved : goal.slots-preserved
slots-preserved g c =
    let count = c.slots.invariant.count in
    let lt = c.slots-test.true in
    record {
      count = length-set c.slots.looks.items c.slots.at c.look_at.new.look ∙ count;
      looked = λ n maps le h.
          let before = c.slots.invariant.looked n maps le h in
          look_set n maps _ c.args.t c.args.slots.now c.slots.looks.items c.slots.at c.index-slots-at-in-slots.result c.look_at.new.look lt
          c.index-slots-at-in-slots.is (c.look_at.ensures.looked n maps le
          (look_there n maps _ c.args.t c.args.slots.now c.slots.looks.items c.slots.at c.index-slots-at-in-slots.result c.index_mut.result.now lt
          c.index-slots-at-in-slots.is c.index_mut.ensures.value before)) before;
      caught = caught_more c.args.t c.first_after-from.result c.slots.at c.slots.looks.items c.look_at.new.look
          (omega (arith, count, lt)) c.look_at.ensures.caught c.slots.invariant.caught;
    }

pub returns-clause-caught : goal.returns-clause-caught
returns-clause-caught g c =
    let end = c.slots-test.false in
    caught_all c.args.slots.now c.args.range c.slots.looks.items c.args.t c.first_after-from.result c.slots.at c.first_after-from.ensures.before
    c.slots.invariant.caught (λ k d page low less. absurd (omega (arith, end, low, less)))
