-- Every slot map can be read at the pages of a goal
use Rattle.slot_lock.proofs.Words.{◌≡◌, ℕ, ◌<◌, ◌≤◌, true, arith, PageRange, has, IsPage, IsPageRange, has_in}
use Rattle.slot_lock.specs.declared.plan.Goal.{Goal}
use Rattle.slot_lock.specs.Plan.{IsSoundGoal, goal_range}
use Rattle.slot_lock.specs.Slots.{Slots, IsSlotMap}
use Rattle.vm_calls.specs.Decisions.{IsReadable}
use Rattle.vm_calls.proofs.Targets.{goal-pages}

in-range : (r : PageRange) → IsPageRange r → (p : ℕ) → has r p ≡ true → IsPage p
in-range r ok p h = let z : (r.first ≤ p) × (p < r.end) = has_in r p h in (omega (arith, ok.low, z.0), omega (arith, ok.high, z.1))

pub goal-valid : (goal : Goal) → IsSoundGoal goal → (p : ℕ) → has (goal_range goal) p ≡ true → IsPage p
goal-valid goal ok = in-range (goal_range goal) (goal-pages goal ok)

-- A whole map can be read at each goal's pages: this is what a caller of `decide` with a slot map gives it.
pub readable : (reads : ℕ → Type 0) (s : Slots) (goal : Goal) → IsSlotMap s → ((p : ℕ) → IsPage p → reads p) → IsSoundGoal goal
    → IsReadable reads s (goal_range goal)
readable reads s goal laws all ok = record {
  reads_all = λ p h. all p (goal-valid goal ok p h);
  goes_on = λ p h _ e. laws.goes_on p (goal-valid goal ok p h) e;
}
