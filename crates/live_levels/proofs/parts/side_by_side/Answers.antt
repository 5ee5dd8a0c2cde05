use Rattle.std.proofs.Common.{rules, arith, ◌+◌, ◌*◌}
use Rattle.live_levels.specs.Parts.{IsPlaced, IsUnused}
use Rattle.live_levels.proofs.EachSlot.{each_push}
use Rattle.live_levels.proofs.parts.side_by_side.Goals as goal

pub slots-preserved : goal.slots-preserved
slots-preserved g c =
    let held = c.slots.invariant in
    let count = held.count in
    let new = c.new.ensures in
    let slots = c.slots.slots.items in
    let here : IsPlaced (c.args.first + c.slots.k * c.args.pages) c.args.pages c.new.result = search rules in
    let unused : IsUnused c.new.result = record { owner = new.place.2; content = new.unmapped.0; changes = new.unmapped.1; whole = new.whole } in
    record {
      count = search rules;
      each = λ k d lt. rw c.push_reserved.ensures.items (each_push (λ j s. IsPlaced (c.args.first + j * c.args.pages) c.args.pages s) slots c.new.result
          (λ j e less. held.each j e (omega arith)) (rw count here) k d (omega arith));
      unused = λ k d lt. rw c.push_reserved.ensures.items (each_push (λ j s. IsUnused s) slots c.new.result
          (λ j e less. held.unused j e (omega arith)) unused k d (omega arith));
      room = search rules;
    }
