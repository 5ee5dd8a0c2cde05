-- Placed mappings: where they go, and the slots that they cut or get room in
use Rattle.std.proofs.Common.{◌≡◌, ◌≢◌, ℕ, zero, suc, List, [], ◌∷◌, length, map, Option, Some}
use Rattle.std.proofs.Common.{None, arith, sym, ap, ◌∙◌, subst}
use Rattle.std.specs.Prelude.{All}
use Rattle.std.proofs.lemmas.List.{length-map}
use Rattle.vm_base.specs.declared.page.PageRange.{PageRange}
use Rattle.vm_base.specs.Places.{IsLeastRoom}
use Rattle.vm_base.specs.Plain.{is_mapped}
use Rattle.slot_lock.specs.declared.plan.Place.{Place}
use Rattle.slot_lock.specs.declared.plan.Target.{Target}
use Rattle.slot_lock.specs.declared.plan.Target.TheVariants.{Hint, Run, Window}
use Rattle.slot_lock.specs.Plan.{target_range}
use Rattle.slot_lock.specs.Slots.{Slots}
use Rattle.live_levels.specs.Slots.{SlotView}
use Rattle.live_tree.specs.Held.{AreAlike, CrossesNoEdge, without_room}
use Rattle.vm_calls.specs.declared.decision.Decision.{Decision}
use Rattle.vm_calls.specs.declared.decision.Decision.TheVariants.{Again}
use Rattle.vm_calls.specs.Decisions.{DecidesPlace, DecidesRun, act_at, entries}
use Rattle.vm_calls.specs.Decisions.DecidesRun.{free, taken}
use Rattle.vm_base.specs.declared.replies.Reply.{Reply}
use Rattle.slot_lock.specs.Plan.{IsTarget}
use Rattle.live_tree.specs.Held.{HeldView}
use Rattle.seats.specs.Notes.{SeatView}
use Rattle.live_space.specs.declared.ending.Ending.{Ending}
use Rattle.live_space.specs.Placing.{IsInside, PlacesJust, PlacesSomewhere}
use Rattle.live_space.specs.Planned.{EndsIn}
use Rattle.live_space.proofs.Ended.{ends_map}

run_inside : (s : Slots) (range : PageRange) (d : Decision) → DecidesRun s range d → IsInside range d
run_inside s range d (free f e) = subst (IsInside range) (sym e) (omega arith, omega arith)
run_inside s range d (taken t e) = subst (IsInside range) (sym e) tt

room_inside : (s : Slots) (place : Place) (found : Option ℕ) → IsLeastRoom (is_mapped (entries s)) place.window place.count found
    → IsInside place.window (act_at found place.count)
room_inside s place None least = tt
room_inside s place (Some first) least = (least.0.0.low, least.0.0.high)

pub placed_inside : (s : Slots) (place : Place) (target : Target) (d : Decision) → DecidesPlace s place target d
    → IsInside (target_range place target) d
placed_inside s place (Hint range) d h = run_inside s range d h
placed_inside s place (Run range) d h = run_inside s range d h
placed_inside s place Window d h = subst (IsInside place.window) (sym h.2) (room_inside s place h.0 h.1)

-- who holds the window never looks elsewhere
pub last_settles : (s : Slots) (place : Place) (target : Target) (d : Decision) → DecidesPlace s place target d → target ≡ Window → d ≢ Again
last_settles s place (Hint range) d h e = absurd cc
last_settles s place (Run range) d h e = absurd cc
last_settles s place Window d h e = acts_or_refuses h.0 place.count d h.2
  where
    acts_or_refuses : (found : Option ℕ) (n : ℕ) (d : Decision) → d ≡ act_at found n → d ≢ Again
    acts_or_refuses None n d is again = absurd cc
    acts_or_refuses (Some first) n d is again = absurd cc

bare_edges : (r : PageRange) (ss : List SlotView) → All (CrossesNoEdge r) ss → All (CrossesNoEdge r) (map without_room ss)
bare_edges r [] h k d lt = absurd (omega arith)
bare_edges r (s ∷ ss) h zero d lt = h 0 s (omega arith)
bare_edges r (s ∷ ss) h (suc k) d lt = bare_edges r ss (λ j e l. h (suc j) e (omega arith)) k d (omega arith)

edges_of_bare : (r : PageRange) (ss : List SlotView) → All (CrossesNoEdge r) (map without_room ss) → All (CrossesNoEdge r) ss
edges_of_bare r [] h k d lt = absurd (omega arith)
edges_of_bare r (s ∷ ss) h zero d lt = h 0 s (omega arith)
edges_of_bare r (s ∷ ss) h (suc k) d lt = edges_of_bare r ss (λ j e l. h (suc j) e (omega arith)) k d (omega arith)

-- slots that are the same but for room cross the same edges
pub alike_edges : (r : PageRange) (ss ts : List SlotView) → AreAlike ss ts → All (CrossesNoEdge r) ts → All (CrossesNoEdge r) ss
alike_edges r ss ts same h = edges_of_bare r ss (subst (All (CrossesNoEdge r)) (sym same) (bare_edges r ts h))

pub alike_count : (ss ts : List SlotView) → AreAlike ss ts → length ss ≡ length ts
alike_count ss ts same = sym (length-map ss without_room) ∙ (ap length same ∙ length-map ts without_room)

-- with one of its targets a mapping is somewhere
pub placed_at : (place : Place) (target : Target) (t : SeatView) (k : HeldView) (ending : Ending) → EndsIn (PlacesJust place target t k) ending
    → IsTarget place target → EndsIn (PlacesSomewhere place t k) ending
placed_at place target t k ending h is =
    ends_map (PlacesJust place target t k) (PlacesSomewhere place t k) ending (λ (reply : Reply) p. (target, is, p)) h
