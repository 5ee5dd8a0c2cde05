-- Several frames that a step locks one after another
use Rattle.std.specs.Prelude.{◌≡◌, ℕ, List, ◌++◌, map, All}
use Rattle.refcache.specs.Pieces.{IsCount}
use Rattle.live_pages.specs.HeldFrames.{HeldFrame, number_of}

-- these frames more are held, in the order of their numbers, each of whose counts takes any delta; those that were held stay
-- as they were
pub record LocksAll (wanted : List ℕ) (old new : List HeldFrame) : Type 0 where
  pub more : List HeldFrame
  pub now : new ≡ old ++ more
  pub numbers : map number_of more ≡ wanted
  pub counts : All (λ f. IsCount f.count.global) more
