use Rattle.slot_lock.proofs.Words.{rules, ◌≡◌, ◌+◌, [], ◌∷◌, Some, length, ap, arith, mutex_guard_value, length-append}
use Rattle.live_tree.specs.Cutting.{IsPartOf}
use Rattle.live_tree.proofs.Cuts.{adds_more}
use Rattle.live_tree.proofs.held.cut.lock_parts.Goals as goal

pub parts-preserved : goal.parts-preserved
parts-preserved g c =
    let guard = c.in-Some.guard in
    let at : (mutex_guard_value guard).first ≡ c.parts.next = search rules in
    let first : c.first-in-parts.result ≡ (mutex_guard_value guard).first = search rules in
    let part : IsPartOf c.args.core c.args.first c.args.content.now (mutex_guard_value guard) = search rules in
    let count : c.count.result ≡ (mutex_guard_value guard).count = search rules in
    record {
      added = adds_more c.args.core c.args.first c.args.content.now c.parts.next (c.first-in-parts.result + c.count.result) c.parts.counter
          c.args.guards.now.items c.parts.guards.items c.push_reserved.new.self.items guard
          c.parts.invariant.added c.push_reserved.ensures.items at (omega (arith, at, first, count)) part;
      room = omega (
        arith,
        ap length c.push_reserved.ensures.items,
        length-append c.parts.guards.items
            (Some guard ∷ []),
        c.push_reserved.ensures.capacity,
        c.parts.invariant.room,
      );
    }
