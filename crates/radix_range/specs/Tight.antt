-- Pages at which no room begins
use Rattle.std.specs.Prelude.{◌≡◌, ℕ, ◌+◌, ◌<◌, ◌≤◌, ◌⊎◌, false, List, All}
use Rattle.vm_base.specs.declared.page.PageRange.{PageRange}
use Rattle.vm_base.specs.Functions.{has}
use Rattle.vm_base.specs.Runs.{NoneIn}
use Rattle.slot_lock.specs.Slots.{Slots}
use Rattle.radix_range.specs.Mapped.{IsMappedRun}
use Rattle.radix_range.specs.declared.tight.Tight.{Tight}

-- at none of these pages n unmapped pages begin
pub record IsTight (s : Slots) (t : Tight) : Type 0 where
  pub some : 1 ≤ t.n
  pub none : (p : ℕ) → t.first ≤ p → p < t.end → ¬ NoneIn s.info p (p + t.n)

-- but for those that have pages of the range
pub record IsTightBeside (s : Slots) (range : PageRange) (t : Tight) : Type 0 where
  pub some : 1 ≤ t.n
  pub none : (p : ℕ) → t.first ≤ p → p < t.end → (p + t.n ≤ range.first) ⊎ (range.end ≤ p) → ¬ NoneIn s.info p (p + t.n)

-- but for those that begin in the range
pub record IsTightBut (s : Slots) (range : PageRange) (t : Tight) : Type 0 where
  pub some : 1 ≤ t.n
  pub none : (p : ℕ) → t.first ≤ p → p < t.end → has range p ≡ false → ¬ NoneIn s.info p (p + t.n)

-- what a map keeps in mind of its pages
pub record IsKnown (s : Slots) (full : PageRange) (tights : List Tight) : Type 0 where
  pub mapped : IsMappedRun s full
  pub tight : All (IsTight s) tights
