-- What a source gives, and when it gives no bytes any more.
use Rattle.std.specs.Prelude.{◌≡◌, ℕ, ◌^◌, ◌≤◌, Bool, true, ◌⊎◌, List, [], ◌++◌, Option, Some, Result}
use Rattle.std.specs.Prelude.{Ok, Err, take}
use Rattle.std.specs.Io.KnownBytes.{Consumes, Keeps}

-- the bytes that were given so far, and those that reads will give from here on, where they are
-- known: none, once a read has met the end
pub record Stream : Type 0 where
  pub given : List ℕ
  pub coming : Option (List ℕ)

-- no byte comes any more
abbrev pub HasEnded : Stream → Type 0
HasEnded s = s.coming ≡ Some []

-- a read has failed, or the limit of reads is reached
abbrev pub HasStopped : Bool → ℕ → Type 0
HasStopped failed reads = (failed ≡ true) ⊎ (2 ^ 32 ≤ reads)

-- these bytes were given
pub record Gives (old new : Stream) (bs : List ℕ) : Type 0 where
  pub given : new.given ≡ old.given ++ bs
  pub coming : Consumes old.coming new.coming bs

-- what a read gave
abbrev pub read_bytes : {E : Type 0} → Result ℕ E → List ℕ → List ℕ
read_bytes (Ok n) buffer = take n buffer
read_bytes (Err e) buffer = []

-- Some bytes were given, and P holds of what was to come before them and what still is, whatever
-- comes after them: where that is known, that, and after the end nothing.
pub record Reads (old new : Stream) (P : List ℕ → List ℕ → Type 0) : Type 0 where
  pub bytes : List ℕ
  pub gives : Gives old new bytes
  pub holds : (later : List ℕ) → Keeps new.coming (Some later) → P (bytes ++ later) later
