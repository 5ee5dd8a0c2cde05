use Rattle.slot_lock.proofs.Words.{rules, ◌≡◌, ◌+◌, ◌-◌, ◌<◌, ◌++◌, List, Option, MutexGuard, length, get_or, ap, ◌∙◌, arith, remove, length-append}
use Rattle.std.specs.List.{insert_slice, refill}
use Rattle.live_levels.specs.Slots.{SlotView}
use Rattle.live_tree.proofs.Cuts.{in_place, in_place_item}
use Rattle.live_tree.proofs.Refilled.{refilled}
use Rattle.live_tree.proofs.held.cut.put_in_place.Goals as goal
use Rattle.live_tree.proofs.held.cut.put_in_place.Goals.{After-remove}

-- the guards before one is taken out, and its place among those that were there
moved : (g : _) (c : After-remove g) (gs more : List (Option (MutexGuard SlotView))) → c.args.guards.now.items ≡ gs ++ more → length more ≡ 512
    → (refill (length c.args.guards.now.items) c.args.guards.now.items c.move_tail_to.new.items ≡ insert_slice gs c.args.at more) × (c.args.at < length gs)
moved g c gs more is count =
    let items = c.args.guards.now.items in
    let all : length items ≡ length gs + 512 = omega (arith, ap length is, length-append gs more, count) in
    let tail : length gs ≡ c.len-tail.result - 512 = omega (arith, all, c.len-tail.ensures.value) in
    let moved = c.move_tail_to.ensures gs more (c.as_mut_slice.ensures.value ∙ is) tail in
    let same : length c.move_tail_to.new.items ≡ length items = search rules in
    (refilled items c.move_tail_to.new.items same ∙ moved, omega (arith, all, c.requires))

pub returns-clause-placed : goal.returns-clause-placed
returns-clause-placed g c gs more is count =
    let at = moved g c gs more is count in
    c.remove.ensures.items
    ∙ (ap (λ l. remove l (c.args.at + 512)) at.0 ∙ in_place gs more c.args.at (c.args.at + 512) at.1 (omega (arith, count)))

pub returns-clause-taken : goal.returns-clause-taken
returns-clause-taken g c gs more is count =
    let at = moved g c gs more is count in
    c.remove.ensures.value
    ∙ (ap (λ l. get_or l (c.args.at + 512) c.remove.result) at.0
    ∙ in_place_item gs more c.args.at (c.args.at + 512) c.remove.result at.1 (omega (arith, count)))
