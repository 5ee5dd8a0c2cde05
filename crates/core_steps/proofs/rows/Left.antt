-- The pages that a call is still to lock
use Rattle.machine_model.proofs.Words.{◌≡◌, ℕ, ◌^◌, ◌<◌, ◌≤◌, ap, arith, props, subst, sym, ∥∥₁_elim, goal_range, Goal, PageRange, World}
use Rattle.vm_base.specs.Pages.{IsPageRange}
use Rattle.machine_model.specs.declared.phase.Phase.TheVariants.{Lock}
use Rattle.machine_model.proofs.Moves.{call_at}
use Rattle.core_steps.specs.Moving.{IsAt}
use Rattle.core_steps.proofs.rows.Known.{is_left, order}

-- there are some, and they are valid: those of this range from the cursor on
pub left_valid : (w : World) (c : ℕ) (goal : Goal) (cursor : ℕ) (range : PageRange) → IsAt w c (Lock goal cursor) → range ≡ goal_range goal
    → IsPageRange range → (cursor < range.end) × ((1 ≤ cursor) × (range.end ≤ 2 ^ 35))
left_valid w c goal cursor range i same sound =
    let from : (goal_range goal).first ≤ cursor =
    ∥∥₁_elim (order i) (hlevel props) (λ o. (call_at w c (Lock goal cursor) i.phase o).ready.0) in
    let first : range.first ≡ (goal_range goal).first = ap (λ (r : PageRange). r.first) same in
    let low : 1 ≤ range.first = sound.low in (
      subst (λ (r : PageRange). cursor < r.end) (sym same) (is_left w c goal cursor i),
      (omega (arith, from, first, low), sound.high),
    )
