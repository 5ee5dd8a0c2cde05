-- One held slot more, on the right
use Rattle.slot_lock.proofs.Words.{◌≡◌, ℕ, zero, suc, ◌+◌, List, [], ◌∷◌, ◌++◌, map, Option, Some, refl, arith, All, IsSome, mutex_guard_value, MutexGuard}
use Rattle.slot_lock.proofs.Words.{map-append, All-append}
use Rattle.live_levels.specs.Slots.{SlotView}
use Rattle.live_tree.specs.Guards.{slot_of}
use Rattle.live_tree.specs.Held.{SideBySide}

pub side_by_side_more : (first end n : ℕ) (ss : List SlotView) (s : SlotView) → SideBySide first end ss → s.first ≡ end → n ≡ end + s.count
    → SideBySide first n (ss ++ s ∷ [])
side_by_side_more first end n [] s h at is = (omega (arith, h, at), omega (arith, h, is))
side_by_side_more first end n (x ∷ xs) s h at is = (h.0, side_by_side_more (first + x.count) end n xs s h.1 at is)

pub map_more : (gs : List (Option (MutexGuard SlotView))) (g : MutexGuard SlotView)
    → map slot_of (gs ++ Some g ∷ []) ≡ map slot_of gs ++ mutex_guard_value g ∷ []
map_more gs g = map-append slot_of gs (Some g ∷ [])

pub all_of_one : {X : Type 0} (P : X → Type 0) (x : X) → P x → All P (x ∷ [])
all_of_one P x h zero e l = h
all_of_one P x h (suc k) e l = absurd (omega arith)

pub all_more : (gs : List (Option (MutexGuard SlotView))) (g : MutexGuard SlotView) → All IsSome gs → All IsSome (gs ++ Some g ∷ [])
all_more gs g h = All-append IsSome gs (Some g ∷ []) h (all_of_one IsSome (Some g) refl)

-- slots that keep their places lie side by side
pub side_map : (f : SlotView → SlotView) → ((s : SlotView) → (f s).first ≡ s.first) → ((s : SlotView) → (f s).count ≡ s.count)
    → (first end : ℕ) (ss : List SlotView) → SideBySide first end ss → SideBySide first end (map f ss)
side_map f same count first end [] h = h
side_map f same count first end (s ∷ ss) h = rw (same s, count s) (h.0, side_map f same count (first + s.count) end ss h.1)

pub pushed : (first end n : ℕ) (gs gs' : List (Option (MutexGuard SlotView))) (g : MutexGuard SlotView) → All IsSome gs → SideBySide first end (map slot_of gs)
    → gs' ≡ gs ++ Some g ∷ [] → (mutex_guard_value g).first ≡ end → n ≡ end + (mutex_guard_value g).count → All IsSome gs'
    × SideBySide first n (map slot_of gs')
pushed first end n gs gs' g all side is at ends = rw (is, map_more gs g) (
  all_more gs g all,
  side_by_side_more first end n (map slot_of gs)
      (mutex_guard_value g) side at ends,
)
