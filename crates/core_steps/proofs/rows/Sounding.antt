-- Soundness of plans and goals is read off a state of which only its being reached is known
use Rattle.machine_model.proofs.Words.{ℕ, Option, Some, None, ∥∥₁_elim, ∥∥₁_map, props, PageRange, Put, Clear, Protect, Goal, Place, Plan, Hint, goal_plan}
use Rattle.machine_model.proofs.Words.{HasTarget, IsSoundGoal, IsSoundPlace}
use Rattle.slot_lock.specs.declared.plan.Goal.TheVariants as To
use Rattle.slot_lock.specs.declared.plan.Plan.TheVariants as PlanOf
use Rattle.slot_lock.specs.declared.plan.Target.TheVariants.{Run}
use Rattle.slot_lock.specs.Plan.{IsSoundPlan, IsSoundHint}

hint_if : (hint : Option PageRange) (count : ℕ) → ∥ IsSoundHint hint count ∥₁ → IsSoundHint hint count
hint_if None count t = tt
hint_if (Some hint) count t = ∥∥₁_elim t (hlevel props) (λ h. h)

place_if : (place : Place) → ∥ IsSoundPlace place ∥₁ → IsSoundPlace place
place_if place t = record {
  some = ∥∥₁_elim t (hlevel props) (λ h. h.some);
  hint = hint_if place.hint place.count (∥∥₁_map t (λ h. h.hint));
  window = ∥∥₁_elim t (hlevel props) (λ h. h.window);
  fits = ∥∥₁_elim t (hlevel props) (λ h. h.fits);
}

pub sound_if : (plan : Plan) → ∥ IsSoundPlan plan ∥₁ → IsSoundPlan plan
sound_if (PlanOf.Place place) t = place_if place t
sound_if (PlanOf.Change (Put range meta)) t = ∥∥₁_elim t (hlevel props) (λ h. h)
sound_if (PlanOf.Change (Clear range)) t = ∥∥₁_elim t (hlevel props) (λ h. h)
sound_if (PlanOf.Change (Protect range prot)) t = ∥∥₁_elim t (hlevel props) (λ h. h)
sound_if (PlanOf.Touch touch) t = ∥∥₁_elim t (hlevel props) (λ h. h)

has_target_if : (goal : Goal) → ∥ HasTarget goal ∥₁ → HasTarget goal
has_target_if (To.Place place (Hint range)) t = ∥∥₁_elim t (hlevel props) (λ h. h)
has_target_if (To.Place place (Run range)) t = ∥∥₁_elim t (hlevel props) (λ h. h)
has_target_if goal t = tt

pub goal_if : (goal : Goal) → ∥ IsSoundGoal goal ∥₁ → IsSoundGoal goal
goal_if goal t = record {
  plan = sound_if (goal_plan goal) (∥∥₁_map t (λ h. h.plan));
  target = has_target_if goal (∥∥₁_map t (λ h. h.target));
}
