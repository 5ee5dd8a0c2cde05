-- Epochs: their number, and which cores have flushed in the present one.
use Rattle.std.specs.Prelude.{ℕ, ◌≡◌, ◌≤◌, ◌<◌, ◌+◌, ◌^◌, ◌⊎◌, Bool, true, false}
use Rattle.refcache.specs.declared.reports.Flush.{Flush}
use Rattle.refcache.specs.declared.reports.Flush.TheVariants as flush
use Rattle.vm_base.specs.Functions.{put}

-- the number of cores, the epoch, and the set of the cores that have flushed in it
pub record Epoch : Type 0 where
  pub cores : ℕ
  pub number : ℕ
  pub flushed : ℕ

-- each core has a mark
abbrev pub AllMarked : ℕ → (ℕ → Bool) → Type 0
AllMarked n marks = (d : ℕ) → d < n → marks d ≡ true

-- a core without entries flushes: its mark, the epoch and the marks after it
abbrev pub Marks : ℕ → ℕ → (ℕ → Bool) → ℕ → Flush → ℕ → (ℕ → Bool) → Type 0
Marks n epoch marks c (flush.Evicted o) later new = ⊥
Marks n epoch marks c flush.Flushed later new = (marks c ≡ false)
    × (AllMarked n (put marks c true) → ⊥) × (later ≡ epoch) × (new ≡ put marks c true)
Marks n epoch marks c flush.EpochEnded later new = (marks c ≡ false)
    × AllMarked n (put marks c true) × (2 ^ 64 ≤ epoch + 1 → ⊥) × (later ≡ epoch + 1)
    × (new ≡ λ d. false)
Marks n epoch marks c flush.Idle later new =
    ((marks c ≡ true) ⊎ (AllMarked n (put marks c true) × (2 ^ 64 ≤ epoch + 1)))
    × (later ≡ epoch) × (new ≡ marks)
