-- Slots that a core locks, or unlocks, one after another
use Rattle.std.specs.Prelude.{◌≡◌, ℕ, zero, suc}
use Rattle.slot_lock.specs.declared.slot_map.SlotRun.{SlotRun}
use Rattle.slot_lock.specs.Slots.{Slots, Locks, Unlocks}

-- n slots, of which the first begins at a page and each later one where the one before it ends; the
-- last ends at `upto`. Each changes the map as `changes` says of its first page and its end
abbrev pub OneByOne : (Slots → Slots → ℕ → ℕ → Type 0) → Slots → Slots → ℕ → ℕ → ℕ → Type 0
OneByOne changes s t first zero upto = (t ≡ s) × (upto ≡ first)
OneByOne changes s t first (suc n) upto =
    (m : Slots) × ((b : ℕ) × OneByOne changes s m first n b × changes m t b upto)

-- the core locks these slots, which were free and end by `end`
abbrev pub LocksRun : Slots → Slots → ℕ → ℕ → ℕ → SlotRun → Type 0
LocksRun s t core cursor end run =
    OneByOne (λ x y a b. Locks x y core a end b) s t cursor run.slots run.upto

-- the core unlocks these slots, which it held and which end by `end`
abbrev pub UnlocksRun : Slots → Slots → ℕ → ℕ → ℕ → SlotRun → Type 0
UnlocksRun s t core cursor end run =
    OneByOne (λ x y a b. Unlocks x y core a end b) s t cursor run.slots run.upto
