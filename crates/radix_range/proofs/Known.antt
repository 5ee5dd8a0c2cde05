-- What keeps known what a map keeps in mind
use Rattle.slot_lock.proofs.Words.{◌≡◌, ℕ, ◌∙◌, Bool, true, false, List, All, Option, Some, Result, Ok, Err, IsTrue, OnOk}
use Rattle.slot_lock.proofs.Words.{sym, ap, subst, refl, PageRange, PageInfo, IsPage}
use Rattle.std.proofs.Common.{OnErr}
use Rattle.slot_lock.specs.declared.plan.Change.{Change}
use Rattle.slot_lock.specs.Changes.{changed}
use Rattle.slot_lock.specs.Slots.{Slots, Divides, Joins, with_info}
use Rattle.slot_lock.proofs.Facts.{two}
use Rattle.radix_node.specs.Node.{Parts}
use Rattle.radix_range.specs.Tree.{tree_slots}
use Rattle.radix_range.specs.declared.tight.Tight.{Tight}
use Rattle.radix_range.specs.Mapped.{IsMappedRun}
use Rattle.radix_range.specs.Tight.{IsKnown, IsTight}
use Rattle.radix_range.proofs.Mapped as mapped
use Rattle.radix_range.proofs.NoRoom.{all_kept, by_leaf}

pub same_info : (s t : Slots) (full : PageRange) (ts : List Tight) → IsKnown s full ts → t.info ≡ s.info → IsKnown t full ts
same_info s t full ts a e = record {
  mapped = mapped.same_info s t full a.mapped e;
  tight = all_kept s t (λ p h. ap (λ (f : ℕ → Option PageInfo). f p) (sym e) ∙ h) ts a.tight;
}

pub same_slots : (s t : Slots) (full : PageRange) (ts : List Tight) → IsKnown s full ts → t ≡ s → IsKnown t full ts
same_slots s t full ts a e = same_info s t full ts a (ap (λ (u : Slots). u.info) e)

-- an expansion, or its refusal
pub expanded : {T E : Type 0} (r : Result T E) (v w : Parts) (owner : Option ℕ) (full : PageRange) (ts : List Tight)
    → OnOk r ((at : ℕ) × IsPage at × Divides (tree_slots v) (tree_slots w) owner at) → OnErr r (w ≡ v)
    → IsKnown (tree_slots v) full ts → IsKnown (tree_slots w) full ts
expanded (Ok x) v w owner full ts (at, valid, d) err a = same_info (tree_slots v) (tree_slots w) full ts a d.info
expanded (Err e) v w owner full ts ok err a = same_slots (tree_slots v) (tree_slots w) full ts a (ap tree_slots err)

-- a fold, or none
pub folded : (b : Bool) (v w : Parts) (full : PageRange) (ts : List Tight) → (IsTrue b → Joins (tree_slots v) (tree_slots w)) → (¬ IsTrue b → w ≡ v)
    → IsKnown (tree_slots v) full ts → IsKnown (tree_slots w) full ts
folded true v w full ts joins same a = same_info (tree_slots v) (tree_slots w) full ts a (joins refl).info
folded false v w full ts joins same a = same_slots (tree_slots v) (tree_slots w) full ts a (ap tree_slots (same (λ x. two false refl x)))

-- one page that stays mapped
pub one_info : (s : Slots) (page : ℕ) (info : PageInfo) (full : PageRange) (ts : List Tight) → IsKnown s full ts
    → IsKnown (with_info s page (Some info)) full ts
one_info s page info full ts a = record {
  mapped = mapped.one_info s page (Some info) full (λ _. refl) a.mapped;
  tight = all_kept s (with_info s page (Some info)) (by_leaf s page info) ts a.tight;
}

-- a change
pub after_change : (s t : Slots) (change : Change) (full : PageRange) (ts : List Tight) → t ≡ changed s change → IsMappedRun (changed s change) full
    → All (IsTight t) ts → IsKnown t full ts
after_change s t change full ts now m a = record { mapped = subst (λ (u : Slots). IsMappedRun u full) (sym now) m; tight = a }
