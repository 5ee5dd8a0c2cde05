-- What the check of the arguments and the decision say of plans, on whichever core: vm_calls says it of cores below 64
use Rattle.machine_model.proofs.Words.{◌≡◌, ℕ, ◌+◌, ◌<◌, ◌≤◌, Bool, true, false, sym, subst, arith, Some, None, Option, Result, Ok, if◌then◌else◌, Meta}
use Rattle.machine_model.proofs.Words.{PageRange, Reply, Request, Mmap, Mode, meta_of, has, IsPageRange, pages_from}
use Rattle.machine_model.proofs.Words.{pages_of, IsFree, File, is_mapped, refusal, has_in, in_has, Change, Put, Protect, Place, Plan, Touch, Goal}
use Rattle.machine_model.proofs.Words.{Target, Hint, Window, range_of, goal_range, goal_plan, HasTarget, IsSoundTouch, IsSoundGoal, Slots, Decision, Act}
use Rattle.machine_model.proofs.Words.{Again, checked, plan_of, unless_refused, place_of, Decides, DecidesPlace, entries, free, taken, no_page, no_write}
use Rattle.slot_lock.specs.declared.plan.Plan.TheVariants as PlanOf
use Rattle.slot_lock.specs.declared.plan.Goal.TheVariants as To
use Rattle.slot_lock.specs.declared.plan.Target.TheVariants.{Run}
use Rattle.slot_lock.specs.Plan.{IsSoundChange}
use Rattle.vm_calls.specs.Decisions.{DecidesRun, DecidesWindow}
use Rattle.vm_calls.specs.Decisions.DecidesProtect.{acts}
use Rattle.vm_calls.proofs.Alike.{decision_alike}
use Rattle.vm_calls.proofs.Passed.{checked_is_sound}
use Rattle.vm_calls.proofs.Targets.{goal-pages, place-act}

-- ---- a plan that isn't placed is the same on each core

-- the plan isn't to be placed
abbrev pub IsUnplaced : Plan → Type 0
IsUnplaced (PlanOf.Place place) = ⊥
IsUnplaced (PlanOf.Change change) = Unit {0}
IsUnplaced (PlanOf.Touch touch) = Unit {0}

same_fixed : (b : Bool) (x plan : Plan) (at to : Place) → IsUnplaced plan → ◌≡◌ {A = Result Plan Reply} (if b then Ok x else Ok (PlanOf.Place at)) (Ok plan)
    → ◌≡◌ {A = Result Plan Reply} (if b then Ok x else Ok (PlanOf.Place to)) (Ok plan)
same_fixed true x plan at to u h = h
same_fixed false x plan at to u h = absurd (let e : PlanOf.Place at ≡ plan = cc in subst IsUnplaced (sym e) u)

same_plan : (core : ℕ) (request : Request) (plan : Plan) → IsUnplaced plan → plan_of core request ≡ Ok plan → plan_of 0 request ≡ Ok plan
same_plan core (Mmap addr len prot flags file off) plan u h =
    let meta : Meta = meta_of prot flags file off in
    same_fixed flags.fixed (PlanOf.Change (Put (pages_of addr len) meta)) plan (place_of core addr len meta) (place_of 0 addr len meta) u h
same_plan core _ plan u h = h

unrefused : (o : Option Reply) (p q : Result Plan Reply) (plan : Plan) → unless_refused o p ≡ Ok plan → (p ≡ Ok plan → q ≡ Ok plan)
    → unless_refused o q ≡ Ok plan
unrefused None p q plan h f = f h
unrefused (Some reply) p q plan h f = absurd cc

pub at_first : (modes : ℕ → Option Mode) (core : ℕ) (request : Request) (plan : Plan) → IsUnplaced plan
    → checked modes core request ≡ Ok plan → checked modes 0 request ≡ Ok plan
at_first modes core request plan u h = unrefused (refusal modes request) (plan_of core request) (plan_of 0 request) plan h (same_plan core request plan u)

pub change_sound : (modes : ℕ → Option Mode) (core : ℕ) (request : Request) (change : Change)
    → checked modes core request ≡ Ok (PlanOf.Change change) → IsSoundChange change
change_sound modes core request change h = checked_is_sound modes 0 request (PlanOf.Change change) (omega arith)
    (at_first modes core request (PlanOf.Change change) tt h)

pub touch_sound : (modes : ℕ → Option Mode) (core : ℕ) (request : Request) (touch : Touch)
    → checked modes core request ≡ Ok (PlanOf.Touch touch) → IsSoundTouch touch
touch_sound modes core request touch h = checked_is_sound modes 0 request (PlanOf.Touch touch) (omega arith)
    (at_first modes core request (PlanOf.Touch touch) tt h)

-- ---- goals

-- what the check of the arguments lets through, with a target of its mapping if it is to be placed
pub goal_sound : (modes : ℕ → Option Mode) (core : ℕ) (request : Request) (goal : Goal) → core < 64
    → checked modes core request ≡ Ok (goal_plan goal) → HasTarget goal → IsSoundGoal goal
goal_sound modes core request goal few h target =
    record { plan = checked_is_sound modes core request (goal_plan goal) few h; target = target }

pub goal_valid : (goal : Goal) → IsSoundGoal goal → IsPageRange (goal_range goal)
goal_valid goal h = goal-pages goal h

-- ---- decisions

-- where the pages of the goal have the same
pub decides_kept : (files : ℕ → Option File) (s t : Slots) (goal : Goal) (d : Decision)
    → ((p : ℕ) → has (goal_range goal) p ≡ true → t.info p ≡ s.info p) → Decides files s goal d → Decides files t goal d
decides_kept files s t goal d same h = decision_alike files s t goal d (λ p i. sym (same p i)) h

-- a change acts on its own range
pub acts_own : (files : ℕ → Option File) (s : Slots) (change : Change) (changes : PageRange) (shoot : ℕ)
    → Decides files s (To.Change change) (Act changes shoot) → changes ≡ range_of change
acts_own files s (Protect range prot) changes shoot (no_page a e) = absurd cc
acts_own files s (Protect range prot) changes shoot (no_write a w r e) = absurd cc
acts_own files s (Protect range prot) changes shoot (acts a r k) = k.0
acts_own files s _ changes shoot h = h.0

-- a mapping goes to the whole of its hint or run
pub run_own : (s : Slots) (run range : PageRange) (shoot : ℕ) → DecidesRun s run (Act range shoot) → range ≡ run
run_own s run range shoot (free f e) = cc
run_own s run range shoot (taken h e) = absurd cc

room_in : (window range : PageRange) (first n p : ℕ) → window.first ≤ first → first + n ≤ window.end → range ≡ pages_from first n
    → has range p ≡ true → has window p ≡ true
room_in window range first n p low high e h =
    let i : has (pages_from first n) p ≡ true = subst (λ r. has r p ≡ true) e h in
    let at = has_in (pages_from first n) p i in
    in_has window p (omega (arith, low, at.0)) (omega (arith, high, at.1))

window_in : (s : Slots) (place : Place) (range : PageRange) (shoot p : ℕ) → DecidesWindow s place (Act range shoot) → has range p ≡ true
    → has place.window p ≡ true
window_in s place range shoot p (None, none, e) h = absurd cc
window_in s place range shoot p (Some first, least, e) h = room_in place.window range first place.count p least.0.0.low least.0.0.high (cc) h

-- a call changes pages that it holds
pub acts_in : (files : ℕ → Option File) (s : Slots) (goal : Goal) (range : PageRange) (shoot p : ℕ) → Decides files s goal (Act range shoot)
    → has range p ≡ true → has (goal_range goal) p ≡ true
acts_in files s (To.Place place (Hint run)) range shoot p d h = subst (λ r. has r p ≡ true) (run_own s run range shoot d) h
acts_in files s (To.Place place (Run run)) range shoot p d h = subst (λ r. has r p ≡ true) (run_own s run range shoot d) h
acts_in files s (To.Place place Window) range shoot p d h = window_in s place range shoot p d h
acts_in files s (To.Change change) range shoot p d h = subst (λ r. has r p ≡ true) (acts_own files s change range shoot d) h
acts_in files s (To.Access touch) range shoot p d h = absurd d

-- which are valid
pub acts_valid : (files : ℕ → Option File) (s : Slots) (goal : Goal) (range : PageRange) (shoot : ℕ) → IsSoundGoal goal
    → Decides files s goal (Act range shoot) → IsPageRange range
acts_valid files s (To.Place place target) range shoot g d = (place-act s place target (Act range shoot) g.plan g.target d).pages
acts_valid files s (To.Change change) range shoot g d =
    subst IsPageRange (sym (acts_own files s change range shoot d)) (goal-pages (To.Change change) g)
acts_valid files s (To.Access touch) range shoot g d = absurd d

-- a mapping goes to pages that aren't mapped
free_of : (s : Slots) (run range : PageRange) (shoot : ℕ) → DecidesRun s run (Act range shoot) → IsFree (is_mapped (entries s)) range
free_of s run range shoot (free f e) = let same : run ≡ range = cc in subst (IsFree (is_mapped (entries s))) same f
free_of s run range shoot (taken h e) = absurd cc

pub place_free : (s : Slots) (place : Place) (target : Target) (range : PageRange) (shoot : ℕ) → DecidesPlace s place target (Act range shoot)
    → IsFree (is_mapped (entries s)) range
place_free s place (Hint run) range shoot d = free_of s run range shoot d
place_free s place (Run run) range shoot d = free_of s run range shoot d
place_free s place Window range shoot (None, none, e) = absurd cc
place_free s place Window range shoot (Some first, least, e) =
    let same : pages_from first place.count ≡ range = cc in subst (IsFree (is_mapped (entries s))) same least.0.1

-- a mapping is refused in its window alone, and is never sent on from it
pub window_stays : (s : Slots) (place : Place) → DecidesWindow s place Again → ⊥
window_stays s place (None, none, e) = cc
window_stays s place (Some first, least, e) = cc
