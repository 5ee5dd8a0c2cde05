-- A fact of each slot and its number, where there is one slot more.
use Rattle.std.proofs.Common.{◌≡◌, ℕ, zero, suc, ◌+◌, ◌<◌, List, [], ◌∷◌, ◌++◌, length, get_or, arith}
use Rattle.live_levels.specs.Slots.{SlotView}

pub each_push : (P : ℕ → SlotView → Type 0) (xs : List SlotView) (x : SlotView) → ((k : ℕ) (d : SlotView) → k < length xs → P k (get_or xs k d))
    → P (length xs) x → (k : ℕ) (d : SlotView) → k < length xs + 1 → P k (get_or (xs ++ x ∷ []) k d)
each_push P [] x h last zero d lt = last
each_push P [] x h last (suc k) d lt = absurd (omega arith)
each_push P (y ∷ ys) x h last zero d lt = h zero d (omega arith)
each_push P (y ∷ ys) x h last (suc k) d lt = each_push (λ j s. P (suc j) s) ys x (λ j e less. h (suc j) e (omega arith)) last k d (omega arith)
