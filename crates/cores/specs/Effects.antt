-- Calls of a history that may not have taken effect
use Rattle.std.specs.Prelude.{◌≡◌, ℕ, Bool, true, false, List, [], ◌∷◌, get_or, slice_get, Some}
use Rattle.orders.specs.declared.history.Timed.{Timed}
use Rattle.cores.specs.declared.kept.Kept.{Kept}
use Rattle.cores.specs.Parts.{is_quiet}

-- Of each call it is told whether it surely took effect. One of which nothing is told did.
abbrev pub took : List Bool → ℕ → Bool
took effects i = get_or effects i true

-- each of these calls is open that may not have
abbrev pub AreTold : List Bool → List Kept → Type 0
AreTold effects [] = Unit {0}
AreTold effects (k ∷ ks) = (k.is_open ≡ false → took effects k.number ≡ true) × AreTold effects ks

-- the call, at its times, did not take effect
pub record IsSpared (c d : Timed) : Type 0 where
  pub begins : d.begin ≡ c.begin
  pub ends : d.end ≡ c.end
  pub quiet : is_quiet d.call.reply ≡ true

-- They are the calls of the history, of which some did not take effect: none of those that surely did.
pub record IsMade (h : List Timed) (effects : List Bool) (made : List Timed) : Type 0 where
  pub spared : ℕ → Bool
  pub unsure : (i : ℕ) → spared i ≡ true → took effects i ≡ false
  pub same : (i : ℕ) (c : Timed) → slice_get h i ≡ Some c → spared i ≡ false → slice_get made i ≡ Some c
  pub gone : (i : ℕ) (c : Timed) → slice_get h i ≡ Some c → spared i ≡ true → (d : Timed) × (slice_get made i ≡ Some d) × IsSpared c d
  pub known : (i : ℕ) (d : Timed) → slice_get made i ≡ Some d → (c : Timed) × (slice_get h i ≡ Some c)
