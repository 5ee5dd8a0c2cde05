-- A Refcache beside a list of the true counts that its calls must have led to.
use Rattle.std.specs.Prelude.{ℕ, ◌≡◌, ◌≤◌, ◌<◌, Bool, true, pos, List, length, slice_index_or}
use Rattle.refcache.specs.Counts.{true_count}
use Rattle.refcache.specs.Steps.{IsUnused}
use Rattle.refcache.specs.Parts.{Parts, counts_of}

pub record IsTrial (p : Parts) (cores : ℕ) (trues : List ℕ) (fresh : Bool) : Type 0 where
  pub same_cores : length p.cores ≡ cores
  pub few : cores ≤ 64
  pub same_objects : length p.objects ≡ length trues
  pub exact : (o : ℕ) → o < length trues → true_count (counts_of p) o ≡ pos (slice_index_or trues o 0)
  -- before the first step but a beginning, an object of count 0 is unused
  pub unused : fresh ≡ true → (o : ℕ) → o < length trues → slice_index_or trues o 0 ≡ 0
      → IsUnused (counts_of p) o
