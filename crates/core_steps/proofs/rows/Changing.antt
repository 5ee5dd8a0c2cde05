-- What the pages that are held let a call change
use Rattle.machine_model.proofs.Words.{◌≡◌, ℕ, true, not, Some, None, Option, refl, sym, subst, ∥∥₁_elim, props, PageInfo, PageRange, Reply, IsPageRange, File}
use Rattle.machine_model.proofs.Words.{Change, Protect, Goal, range_of, IsSoundGoal, Slots, Act, entry_of, no_page, no_write, World}
use Rattle.machine_model.specs.declared.phase.Phase.TheVariants.{Unlock}
use Rattle.std.proofs.Common.{is_some}
use Rattle.slot_lock.specs.declared.plan.Goal.TheVariants as To
use Rattle.slot_lock.specs.Changes.{IsMappedFor}
use Rattle.slot_lock.specs.Plan.{IsSoundChange}
use Rattle.vm_calls.specs.Decisions.{DecidesChange}
use Rattle.vm_calls.specs.Decisions.DecidesProtect.{acts}
use Rattle.vm_calls.proofs.Targets.{place-act}
use Rattle.machine_model.specs.Orderly.{IsChosen, IsChangeOf}
use Rattle.machine_model.proofs.Moves.{call_at}
use Rattle.core_steps.specs.Moving.{IsAt}

-- ---- a change that is to be made

-- what the pages that are held let the call act on
pub act_sound : (w : World) (goal : Goal) (change : Change) → IsSoundGoal goal → IsChangeOf goal change → IsChosen w.made w.slots goal (range_of change)
    → IsSoundChange change
act_sound w (To.Place place target) change sound leads chosen =
    subst IsSoundChange (sym leads) (place-act w.slots place target (Act (range_of change) chosen.0) sound.plan sound.target chosen.1)
act_sound w (To.Change planned) change sound leads chosen = subst IsSoundChange (sym leads) sound.plan
act_sound w (To.Access touch) change sound leads chosen = absurd leads

-- a protection is changed only where all pages are mapped
mapped : (info : Option PageInfo) → (not (is_some (entry_of info)) ≡ true → ⊥) → is_some info ≡ true
mapped None h = absurd (h refl)
mapped (Some info) h = refl

-- a change that is to be made can be
acts_mapped : (files : ℕ → Option File) (s : Slots) (change : Change) (shoot : ℕ) → DecidesChange files s change (Act (range_of change) shoot)
    → IsMappedFor s change
acts_mapped files s (Protect range prot) shoot (no_page a e) = absurd cc
acts_mapped files s (Protect range prot) shoot (no_write a w r e) = absurd cc
acts_mapped files s (Protect range prot) shoot (acts a r k) = λ p h. mapped (s.info p) (λ e. a (p, h, e))
acts_mapped files s change shoot d = tt

pub act_mapped : (w : World) (goal : Goal) (change : Change) → IsChangeOf goal change → IsChosen w.made w.slots goal (range_of change)
    → IsMappedFor w.slots change
act_mapped w (To.Place place target) change leads chosen = subst (IsMappedFor w.slots) (sym leads) tt
act_mapped w (To.Change planned) change leads chosen =
    acts_mapped w.made.file w.slots change chosen.0
    (subst (λ x. DecidesChange w.made.file w.slots x (Act (range_of change) chosen.0)) (sym leads) chosen.1)
act_mapped w (To.Access touch) change leads chosen = absurd leads

-- ---- pages that are to be let go

pub unlock_range : (w : World) (c : ℕ) (held : PageRange) (reply : Reply) → IsAt w c (Unlock held reply) → IsPageRange held
unlock_range w c held reply i = ∥∥₁_elim i.well (hlevel props) (λ g. (call_at w c (Unlock held reply) i.phase g.order).ready)
