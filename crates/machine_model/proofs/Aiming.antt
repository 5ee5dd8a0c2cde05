-- What a mapping without MAP_FIXED asks for, and what its change leaves
use Rattle.machine_model.proofs.Words.{◌≡◌, ℕ, ◌+◌, ◌*◌, ◌/◌, ◌==◌, Bool, true, false, cond, refl, sym, ap, subst, arith, Some, None, Option, Ok, Err, ◌∙◌}
use Rattle.machine_model.proofs.Words.{if◌then◌else◌, nat_tests, PageRange, Segv, MapErr, Flags, Request, Mmap, Load, Store, Fetch, Access}
use Rattle.machine_model.proofs.Words.{Mode, Prot, meta_of, has, IsPageRange, is_page, page_count, page_of, pages_from, pages_of, Plain, refusal, Change, Put}
use Rattle.machine_model.proofs.Words.{Goal, Place, Target, Hint, Window, IsSoundGoal, IsSoundPlace, IsTarget, goal_plan, range_of, Slots, Act, checked}
use Rattle.machine_model.proofs.Words.{place_of, plan_of, touch_of, touched, DecidesPlace, passed, Made, is_access}
use Rattle.vm_base.specs.declared.rights.Access.TheVariants as By
use Rattle.slot_lock.specs.declared.plan.Goal.TheVariants as To
use Rattle.slot_lock.specs.declared.plan.Plan.TheVariants as PlanOf
use Rattle.slot_lock.specs.declared.plan.Target.TheVariants.{Run}
use Rattle.slot_lock.specs.Plan.{IsSoundHint}
use Rattle.vm_calls.specs.Checks.{placed_count}
use Rattle.vm_calls.specs.Decisions.{DecidesWindow}
use Rattle.vm_calls.proofs.Plainly.{counted}
use Rattle.machine_model.specs.Orderly.{IsChosen, IsChangeOf}
use Rattle.machine_model.proofs.Deciding.{acts_valid, run_own}
use Rattle.machine_model.proofs.Using.{DropsAll, change_drops, either_plan, no_change}

-- ---- the request

-- the request is an mmap without MAP_FIXED that core c asks to place so
pub record IsPlaceOf (c : ℕ) (request : Request) (place : Place) : Type 0 where
  pub addr : ℕ
  pub len : ℕ
  pub prot : Prot
  pub flags : Flags
  pub file : ℕ
  pub off : ℕ
  pub asks : request ≡ Mmap addr len prot flags file off
  pub unfixed : flags.fixed ≡ false
  pub placed : place ≡ place_of c addr len (meta_of prot flags file off)

no_touch : (addr byte : ℕ) (access : Access) (place : Place) → touched addr access byte ≡ Ok (PlanOf.Place place) → ⊥
no_touch addr byte access place = go (is_page (page_of addr))
  where
    go : (b : Bool) → (if b then Ok (PlanOf.Touch (touch_of addr access byte)) else Err (Segv MapErr)) ≡ Ok (PlanOf.Place place) → ⊥
    go true e = cc
    go false e = cc

place_planned : (c : ℕ) (request : Request) (place : Place) → plan_of c request ≡ Ok (PlanOf.Place place) → IsPlaceOf c request place
place_planned c (Mmap addr len prot flags file off) place e = go flags.fixed refl e
  where
    go : (b : Bool) → flags.fixed ≡ b
        → either_plan b (PlanOf.Change (Put (pages_of addr len) (meta_of prot flags file off)))
        (PlanOf.Place (place_of c addr len (meta_of prot flags file off)))
        ≡ Ok (PlanOf.Place place) → IsPlaceOf c (Mmap addr len prot flags file off) place
    go true i k = absurd cc
    go false i k =
        let same : place_of c addr len (meta_of prot flags file off) ≡ place = cc in
        record { addr = addr; len = len; prot = prot; flags = flags; file = file; off = off; asks = refl; unfixed = i; placed = sym same }
place_planned c (Load addr) place e = absurd (no_touch addr 0 By.Load place e)
place_planned c (Store addr byte) place e = absurd (no_touch addr byte By.Store place e)
place_planned c (Fetch addr) place e = absurd (no_touch addr 0 By.Fetch place e)
place_planned c _ place e = absurd cc

pub place_asked : (modes : ℕ → Option Mode) (c : ℕ) (request : Request) (place : Place) → checked modes c request ≡ Ok (PlanOf.Place place)
    → IsPlaceOf c request place
place_asked modes c request place e =
    place_planned c request place (passed (refusal modes request) (plan_of c request) (PlanOf.Place place) e).1

-- ---- the range to which the mapping goes

hint_size : (place : Place) (range : PageRange) → IsSoundPlace place → place.hint ≡ Some range → range.end ≡ range.first + place.count
hint_size place range ok e = (subst (λ o. IsSoundHint o place.count) e ok.hint).1

sized : (run range : PageRange) (n : ℕ) → run ≡ range → run.end ≡ run.first + n → range.end ≡ range.first + n
sized run range n e h = subst (λ (r : PageRange). r.end ≡ r.first + n) e h

window_size : (s : Slots) (place : Place) (range : PageRange) (shoot : ℕ) → DecidesWindow s place (Act range shoot)
    → range.end ≡ range.first + place.count
window_size s place range shoot (None, none, e) = absurd cc
window_size s place range shoot (Some first, least, e) =
    let same : pages_from first place.count ≡ range = cc in sized (pages_from first place.count) range place.count same refl

-- it has as many pages as were asked for
pub act_size : (s : Slots) (place : Place) (target : Target) (range : PageRange) (shoot : ℕ) → IsSoundPlace place → IsTarget place target
    → DecidesPlace s place target (Act range shoot) → range.end ≡ range.first + place.count
act_size s place (Hint run) range shoot ok aim d = sized run range place.count (sym (run_own s run range shoot d)) (hint_size place run ok aim)
act_size s place (Run run) range shoot ok aim d = sized run range place.count (sym (run_own s run range shoot d)) aim.size
act_size s place Window range shoot ok aim d = window_size s place range shoot d

-- so many pages from a page's first byte on
pages_at : (first len : ℕ) → pages_of (first * 4096) len ≡ pages_from first (page_count len)
pages_at first len = go (len == 0) refl
  where
    zero_len : (len == 0) ≡ true → len ≡ 0
    zero_len e = grind (arith, nat_tests)

    start : (first * 4096) / 4096 ≡ first
    start = omega arith

    none : len ≡ 0 → (first * 4096) / 4096 ≡ first + (len + 4095) / 4096
    none e = omega (arith, e)

    some : (first * 4096 + len + 4095) / 4096 ≡ first + (len + 4095) / 4096
    some = omega arith

    range : ℕ → ℕ → PageRange
    range a b = record { first = a; end = b }

    go : (b : Bool) → (len == 0) ≡ b
        → range ((first * 4096) / 4096) (if b then (first * 4096) / 4096 else (first * 4096 + len + 4095) / 4096)
        ≡ range first (first + (len + 4095) / 4096)
    go true e = ap (λ a. range a ((first * 4096) / 4096)) start ∙ ap (range first) (none (zero_len e))
    go false e = ap (λ a. range a ((first * 4096 + len + 4095) / 4096)) start ∙ ap (range first) some

-- ---- the users of its pages

-- they have none after the mapping, and no page has got a copy
pub placed_drops : (t : Plain) (c : ℕ) (request : Request) (place : Place) (range : PageRange) → IsPlaceOf c request place
    → IsPageRange range
    → range.end ≡ range.first + place.count → DropsAll t c request (Put range place.meta)
placed_drops t c request place range k valid size =
    subst (λ r. DropsAll t c r (Put range place.meta)) (sym k.asks)
    (refl, λ u p d. ap (λ (r : PageRange). cond (has r p) false (u p d)) (pages_at range.first k.len ∙ whole))
  where
    count : range.end ≡ range.first + placed_count k.len
    count = size ∙ ap (λ (x : Place). range.first + x.count) k.placed

    whole : pages_from range.first (page_count k.len) ≡ range
    whole =
        ap (λ n. pages_from range.first n)
        (sym (counted k.len (let high = valid.high in let low = valid.low in omega (arith, high, low, count))))
        ∙ ap (λ b. record { first = range.first; end = b }) (sym count)

-- a change to which a goal leads
pub goal_drops : (modes : ℕ → Option Mode) (made : Made) (s : Slots) (t : Plain) (c : ℕ) (request : Request) (goal : Goal) (change : Change)
    → checked modes c request ≡ Ok (goal_plan goal) → IsSoundGoal goal → IsChangeOf goal change → IsChosen made s goal (range_of change)
    → DropsAll t c request change
goal_drops modes made s t c request (To.Place place target) change e g lead d =
    subst (DropsAll t c request) (sym lead)
    (placed_drops t c request place (range_of change) (place_asked modes c request place e)
    (acts_valid made.file s (To.Place place target) (range_of change) d.0 g d.1)
    (act_size s place target (range_of change) d.0 g.plan g.target d.1))
goal_drops modes made s t c request (To.Change planned) change e g lead d =
    subst (DropsAll t c request) (sym lead) (change_drops modes t c request planned e)
goal_drops modes made s t c request (To.Access touch) change e g lead d = absurd lead

-- ---- a change is no access

change_no_access : (modes : ℕ → Option Mode) (c : ℕ) (request : Request) (change : Change)
    → checked modes c request ≡ Ok (PlanOf.Change change)
    → is_access request ≡ false
change_no_access modes c request change e = go request (passed (refusal modes request) (plan_of c request) (PlanOf.Change change) e).1
  where
    go : (r : Request) → plan_of c r ≡ Ok (PlanOf.Change change) → is_access r ≡ false
    go (Load addr) e = absurd (no_change c (Load addr) addr 0 By.Load change e)
    go (Store addr byte) e = absurd (no_change c (Store addr byte) addr byte By.Store change e)
    go (Fetch addr) e = absurd (no_change c (Fetch addr) addr 0 By.Fetch change e)
    go _ e = refl

-- nor what a goal leads to
pub goal_no_access : (modes : ℕ → Option Mode) (c : ℕ) (request : Request) (goal : Goal) (change : Change)
    → checked modes c request ≡ Ok (goal_plan goal)
    → IsChangeOf goal change → is_access request ≡ false
goal_no_access modes c request (To.Place place target) change e lead = ap is_access (place_asked modes c request place e).asks
goal_no_access modes c request (To.Change planned) change e lead = change_no_access modes c request planned e
goal_no_access modes c request (To.Access touch) change e lead = absurd lead
