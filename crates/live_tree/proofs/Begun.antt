-- Slots that were never used show nothing mapped and nothing held
use Rattle.slot_lock.proofs.Words.{ℕ, zero, suc, ◌+◌, ◌-◌, ◌<◌, nat_lt, Bool, true, false, cond, List, [], ◌∷◌, length, get_or, refl, ap, arith, info_from}
use Rattle.slot_lock.specs.Slots.{IsNew}
use Rattle.live_levels.specs.Parts.{AreUnused, IsUnused}
use Rattle.live_levels.specs.Slots.{SlotView}
use Rattle.live_tree.specs.Shown.{slot_at, shown}

slot_at_unused : (ss : List SlotView) → ((k : ℕ) (d : SlotView) → k < length ss → IsUnused (get_or ss k d)) → (p : ℕ) → IsUnused (slot_at ss p)
slot_at_unused [] each p = record { owner = refl; content = refl; changes = refl; whole = refl }
slot_at_unused (s ∷ ss) each p =
    either (nat_lt p (s.first + s.count)) s (slot_at ss p) (each zero s (omega arith)) (slot_at_unused ss (λ k d less. each (suc k) d (omega arith)) p)
  where
    either : (b : Bool) (u v : SlotView) → IsUnused u → IsUnused v → IsUnused (cond b u v)
    either true u v h k = h
    either false u v h k = k

pub unused_is_new : (first pages : ℕ) (ss : List SlotView) → AreUnused first pages ss → IsNew (shown ss)
unused_is_new first pages ss h =
    let at : (p : ℕ) → IsUnused (slot_at ss p) = slot_at_unused ss (λ k d less. h.each k d (let count = h.places.count in omega arith)) in
    record {
      unmapped = λ p. ap (λ info. info_from info (p - (slot_at ss p).first)) (at p).content;
      free = λ p. (at p).owner;
    }
