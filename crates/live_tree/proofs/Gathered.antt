-- Slots that were gathered into an empty list, and their histories, lie side by side
use Rattle.std.proofs.Common.{◌≡◌, ℕ, ◌+◌, ◌^◌, List, [], ◌∷◌, ap, ◌∙◌, sym, subst, arith, map, drop}
use Rattle.live_levels.specs.Histories.{AreSlots, Chain, Grew, Past, history_of, past_of}
use Rattle.live_levels.specs.Slots.{SlotView}
use Rattle.live_levels.specs.declared.close.SlotHistory.{SlotHistory}

pub slots_of : (first end : ℕ) (ss : List SlotView) → Grew first end [] ss → AreSlots first end ss
slots_of first end ss h = subst (λ l. AreSlots first end l) (sym h.are) h.chain

-- histories of slots that lie side by side lie side by side
chain_of : {A : Type 0} (first end : ℕ) (ss : List SlotView) (hs : List (SlotHistory A)) → map past_of hs ≡ map history_of ss
    → AreSlots first end ss → Chain first end hs
chain_of first end [] [] is h = h
chain_of first end [] (x ∷ xs) is h = absurd cc
chain_of first end (s ∷ ss) [] is h = absurd cc
chain_of first end (s ∷ ss) (x ∷ xs) is h =
    let one : past_of x ≡ history_of s = cc in
    let rest : map past_of xs ≡ map history_of ss = ap (drop 1) is in
    let place : x.first ≡ s.first = ap (λ (p : Past). p.first) one in
    let count : x.count ≡ s.count = ap (λ (p : Past). p.count) one in
    let next : x.first + x.count ≡ s.first + s.count = omega (arith, place, count) in
    (place ∙ h.0, omega (arith, count, h.1), subst (λ (n : ℕ). Chain n end xs) (sym next) (chain_of (s.first + s.count) end ss xs rest h.2))

pub chain_is : {A : Type 0} (ss : List SlotView) (hs : List (SlotHistory A)) → map past_of hs ≡ map history_of ss
    → AreSlots 0 (2 ^ 36) ss → ∥ Chain 0 (2 ^ 36) hs ∥₁
chain_is ss hs is h = ∣ chain_of 0 (2 ^ 36) ss hs is h ∣₁
