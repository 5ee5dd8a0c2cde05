use Rattle.slot_lock.proofs.Words.{rules, ◌≡◌, ◌+◌, ◌<◌, List, Option, Some, map, get_or, length, ap, refl, subst, sym, ◌∙◌, IsSome, IsTrue, mutex_guard_value}
use Rattle.slot_lock.proofs.Words.{MutexGuard}
use Rattle.live_levels.specs.Parts.{IsDivided}
use Rattle.live_levels.specs.Slots.{SlotView}
use Rattle.live_tree.specs.Cutting.{AddsSlots, PutsParts}
use Rattle.live_tree.specs.Guards.{slot_of}
use Rattle.live_tree.proofs.Cuts.{item_at, parts_put}
use Rattle.live_tree.proofs.held.cut.cut_at.Goals as goal
use Rattle.live_tree.proofs.held.cut.cut_at.Goals.{After-put_in_place}

-- the guard at the place
item : (g : _) (c : After-put_in_place g) → Some c.in-Some-Some.slot ≡ get_or c.args.guards.now.items c.args.at (Some c.in-Some-Some.slot)
item g c =
    let gs = c.args.guards.now.items in
    let look : c.in-Some-Some.field-0.now ≡ get_or c.as_slice.result.now c.args.at c.in-Some-Some.field-0.now = search rules in
    let some : c.in-Some-Some.field-0.now ≡ Some c.in-Some-Some.slot = search rules in
    let whole : c.as_slice.result.now ≡ gs = c.as_slice.ensures ∙ c.reserve.ensures.items in
    subst (λ (x : Option (MutexGuard SlotView)). x ≡ get_or gs c.args.at x) some
    (look ∙ ap (λ (l : List (Option (MutexGuard SlotView))). get_or l c.args.at c.in-Some-Some.field-0.now) whole)

-- the parts that were locked
added : (g : _) (c : After-put_in_place g) → AddsSlots c.args.core c.first-first.result c.content-content.result c.lock_parts.ensures.1
    c.lock_parts.ensures.0 c.args.guards.now.items c.lock_parts.new.guards.items
added g c = subst (λ (l : List (Option (MutexGuard SlotView))). AddsSlots c.args.core c.first-first.result c.content-content.result
    c.lock_parts.ensures.1 c.lock_parts.ensures.0 l c.lock_parts.new.guards.items) c.reserve.ensures.items c.lock_parts.ensures.2

all : (g : _) (c : After-put_in_place g) → IsTrue c.lock_parts.result
all g c = search rules

put : (g : _) (c : After-put_in_place g) → PutsParts c.args.core c.args.at c.args.guards.now.items c.put_in_place.new.guards.items
put g c =
    let slot = c.in-Some-Some.slot in
    parts_put c.args.core c.args.at c.first-first.result (c.first-first.result + c.count.result) c.lock_parts.ensures.1 c.lock_parts.ensures.0
    c.content-content.result c.args.guards.now.items c.lock_parts.new.guards.items c.put_in_place.new.guards.items slot
    c.requires.within (item g c) (search rules) (search rules) (search rules) (added g c) (c.lock_parts.ensures.3 (all g c))
    c.put_in_place.ensures.placed

-- the guard that was taken out is the one at the place
taken : (g : _) (c : After-put_in_place g) → c.put_in_place.result ≡ Some c.in-Some-Some.slot
taken g c =
    let more = added g c in
    item_at c.args.guards.now.items c.args.at c.put_in_place.result c.in-Some-Some.slot c.requires.within (item g c)
    (c.put_in_place.ensures.taken c.args.guards.now.items more.more more.are (more.count ∙ (c.lock_parts.ensures.3 (all g c)).0))

pub mark-requires-clause-some : goal.mark-requires-clause-some
mark-requires-clause-some g c = subst (λ (x : Option (MutexGuard SlotView)). IsSome x) (sym (taken g c)) refl

pub mark-requires-clause-divided : goal.mark-requires-clause-divided
mark-requires-clause-divided g c =
    let here : IsDivided c.in-Cut.division.divided (mutex_guard_value c.in-Some-Some.slot) = search rules in
    subst (λ (x : Option (MutexGuard SlotView)). IsDivided c.in-Cut.division.divided (slot_of x)) (sym (taken g c)) here

pub returns : goal.returns
returns g c = (search rules, put g (goal.at.returns g c).After-put_in_place)
