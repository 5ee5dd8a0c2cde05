-- Goals whose target is of their mapping: their pages are valid, and so is what they act on
use Rattle.slot_lock.proofs.Words.{◌≡◌, ◌+◌, ◌≤◌, Option, Some, None, refl, sym, subst, arith, PageRange, IsPageRange, pages_from}
use Rattle.slot_lock.specs.declared.plan.Change.TheVariants.{Put, Clear, Protect}
use Rattle.slot_lock.specs.declared.plan.Place.{Place}
use Rattle.slot_lock.specs.declared.plan.Target.{Target}
use Rattle.slot_lock.specs.declared.plan.Target.TheVariants.{Hint, Run, Window}
use Rattle.slot_lock.specs.declared.plan.Goal.{Goal}
use Rattle.slot_lock.specs.declared.plan.Goal.TheVariants as To
use Rattle.slot_lock.specs.Plan.{IsSoundGoal, IsSoundHint, IsSoundPlace, IsSoundPut, IsTarget, IsRunOf, goal_range, target_range}
use Rattle.slot_lock.specs.Slots.{Slots}
use Rattle.vm_calls.specs.declared.decision.Decision.{Decision}
use Rattle.vm_calls.specs.Decisions.{DecidesPlace, DecidesRun, DecidesWindow, IsSoundAct}
use Rattle.vm_calls.specs.Decisions.DecidesRun.{free, taken}

hint-sound : (place : Place) (range : PageRange) → IsSoundPlace place → place.hint ≡ Some range → IsSoundHint (Some range) place.count
hint-sound place range ok is = subst (λ (hint : Option PageRange). IsSoundHint hint place.count) is ok.hint

run-pages : (place : Place) (range : PageRange) → IsSoundPlace place → IsRunOf place.window place.count range → IsPageRange range
run-pages place range ok is = record {
  some = omega (arith, ok.some, is.size);
  low = omega (arith, ok.window.low, is.inside.low);
  high = omega (arith, ok.window.high, is.size, is.inside.high);
}

pub target-pages : (place : Place) (target : Target) → IsSoundPlace place → IsTarget place target → IsPageRange (target_range place target)
target-pages place (Hint range) ok is = (hint-sound place range ok is).0
target-pages place (Run range) ok is = run-pages place range ok is
target-pages place Window ok is = ok.window

pub goal-pages : (goal : Goal) → IsSoundGoal goal → IsPageRange (goal_range goal)
goal-pages (To.Place place target) ok = target-pages place target ok.plan ok.target
goal-pages (To.Change (Put range meta)) ok = ok.plan.pages
goal-pages (To.Change (Clear range)) ok = ok.plan
goal-pages (To.Change (Protect range prot)) ok = ok.plan
goal-pages (To.Access touch) ok = record { some = omega arith; low = ok.plan.page.0; high = omega (arith, ok.plan.page.1) }

-- what is mapped anew can be
put-sound : (place : Place) (range : PageRange) → IsSoundPlace place → IsPageRange range → range.end ≡ range.first + place.count
    → IsSoundPut range place.meta
put-sound place range ok pages size = record { pages = pages; fits = omega (arith, ok.fits, size) }

run-act : (s : Slots) (place : Place) (target : Target) (range : PageRange) (d : Decision) → IsSoundPut range place.meta → DecidesRun s range d
    → IsSoundAct (To.Place place target) d
run-act s place target range d sound (free f e) = subst (λ (z : Decision). IsSoundAct (To.Place place target) z) (sym e) sound
run-act s place target range d sound (taken h e) = subst (λ (z : Decision). IsSoundAct (To.Place place target) z) (sym e) tt

window-act : (s : Slots) (place : Place) (d : Decision) → IsSoundPlace place → DecidesWindow s place d → IsSoundAct (To.Place place Window) d
window-act s place d ok (None, none, e) = subst (λ (z : Decision). IsSoundAct (To.Place place Window) z) (sym e) tt
window-act s place d ok (Some first, least, e) =
    let low : place.window.first ≤ first = least.0.0.low in
    let high : first + place.count ≤ place.window.end = least.0.0.high in
    subst (λ (z : Decision). IsSoundAct (To.Place place Window) z) (sym e)
    (put-sound place (pages_from first place.count) ok (record {
      some = omega (arith, ok.some);
      low = omega (arith, ok.window.low, low);
      high = omega (arith, ok.window.high, high);
    }) refl)

pub place-act : (s : Slots) (place : Place) (target : Target) (d : Decision) → IsSoundPlace place → IsTarget place target
    → DecidesPlace s place target d → IsSoundAct (To.Place place target) d
place-act s place (Hint range) d ok is dec =
    let hint = hint-sound place range ok is in
    run-act s place (Hint range) range d (put-sound place range ok hint.0 hint.1) dec
place-act s place (Run range) d ok is dec =
    run-act s place (Run range) range d (put-sound place range ok (run-pages place range ok is) is.size) dec
place-act s place Window d ok is dec = window-act s place d ok dec
