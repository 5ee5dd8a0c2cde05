-- Slots that lie side by side are in order
use Rattle.machine_model.proofs.Words.{ℕ, zero, suc, ◌+◌, ◌<◌, ◌≤◌, List, [], ◌∷◌, length, get_or, arith, props, ∥∥₁_elim}
use Rattle.live_levels.specs.declared.close.SlotHistory.{SlotHistory}
use Rattle.live_levels.specs.Histories.{Chain}
use Rattle.certifier.specs.Histories.{AreInOrder}

module _ {A : Type 0} where
  begins_from : (first end : ℕ) (slots : List (SlotHistory A)) (k : ℕ) (d : SlotHistory A) → Chain first end slots → k < length slots
      → first ≤ (get_or slots k d).first
  begins_from first end [] k d h lt = absurd (omega (arith, lt))
  begins_from first end (s ∷ ss) zero d h lt = let e = h.0 in omega (arith, e)
  begins_from first end (s ∷ ss) (suc k) d h lt =
      let e = h.0 in
      let next = begins_from (s.first + s.count) end ss k d h.2 (omega (arith, lt)) in
      omega (arith, e, next)

  chained : (first end : ℕ) (slots : List (SlotHistory A)) → Chain first end slots → AreInOrder slots
  chained first end [] h j k d less lt = absurd (omega (arith, lt))
  chained first end (s ∷ ss) h zero zero d less lt = absurd (omega (arith, less))
  chained first end (s ∷ ss) h zero (suc k) d less lt = begins_from (s.first + s.count) end ss k d h.2 (omega (arith, lt))
  chained first end (s ∷ ss) h (suc j) zero d less lt = absurd (omega (arith, less))
  chained first end (s ∷ ss) h (suc j) (suc k) d less lt = chained (s.first + s.count) end ss h.2 j k d (omega (arith, less)) (omega (arith, lt))

  pub in_order : (first end : ℕ) (slots : List (SlotHistory A)) → ∥ Chain first end slots ∥₁ → AreInOrder slots
  in_order first end slots h j k d less lt = ∥∥₁_elim h (hlevel props) (λ chain. chained first end slots chain j k d less lt)
