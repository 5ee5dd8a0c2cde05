-- Slots that lie side by side, joined, and their histories
use Rattle.std.proofs.Common.{◌≡◌, ℕ, ◌+◌, ◌<◌, ◌≤◌, List, [], ◌∷◌, ◌++◌, All, Bool, false, drop, append_assoc, ap, ◌∙◌, sym, subst, arith, length}
use Rattle.std.proofs.Common.{map, take, get_or}
use Rattle.std.proofs.lemmas.List.{take_all, take_more, map-append}
use Rattle.std.proofs.lemmas.List.Elements.{All-append}
use Rattle.live_levels.specs.Histories.{AreSlots, AreUndivided, Chain, Grew, Past, history_of, past_of}
use Rattle.live_levels.specs.Slots.{SlotView}
use Rattle.live_levels.specs.declared.close.SlotHistory.{SlotHistory}

chain_append : (a b c : ℕ) (xs ys : List SlotView) → AreSlots a b xs → AreSlots b c ys → AreSlots a c (xs ++ ys)
chain_append a b c [] ys h k = subst (λ (n : ℕ). AreSlots n c ys) (sym h) k
chain_append a b c (x ∷ xs) ys h k = (h.0, h.1, chain_append (x.first + x.count) b c xs ys h.2 k)

pub grew_trans : (a b c : ℕ) (xs ys zs : List SlotView) → Grew a b xs ys → Grew b c ys zs → Grew a c xs zs
grew_trans a b c xs ys zs h k = record {
  more = h.more ++ k.more;
  are = k.are ∙ (ap (λ l. l ++ k.more) h.are ∙ append_assoc xs h.more k.more);
  chain = chain_append a b c h.more k.more h.chain k.chain;
  whole = All-append (λ (s : SlotView). s.divided ≡ false) h.more k.more h.whole k.whole;
}

-- one history more, of the next slot
pub one_more : {A : Type 0} (ss : List SlotView) (at : ℕ) (s d : SlotView) (hs : List (SlotHistory A)) (h : SlotHistory A) → at < length ss
    → get_or ss at d ≡ s → map past_of hs ≡ map history_of (take at ss) → past_of h ≡ history_of s
    → map past_of (hs ++ h ∷ []) ≡ map history_of (take (at + 1) ss)
one_more ss at s d hs h lt here all one =
    map-append past_of hs (h ∷ []) ∙ (ap (λ l. l ++ past_of h ∷ []) all ∙ (ap (λ p. map history_of (take at ss) ++ p ∷ []) (one ∙ ap history_of (sym here))
    ∙ (sym (map-append history_of (take at ss) (get_or ss at d ∷ [])) ∙ ap (λ l. map history_of l) (sym (take_more ss at d lt)))))
