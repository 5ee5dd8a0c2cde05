-- The guards of held slots, turned round
use Rattle.slot_lock.proofs.Words.{◌≡◌, List, [], ◌∷◌, ◌++◌, map, length, drop, Option, refl, sym, ap, ◌∙◌, arith, MutexGuard, map-append, take_all}
use Rattle.std.proofs.Common.{reverse}
use Rattle.std.specs.List.{refill}
use Rattle.std.proofs.lemmas.List.{length-reverse, reverse-append, reverse-reverse, take-append-le}
use Rattle.live_levels.specs.Slots.{SlotView}
use Rattle.live_tree.specs.Guards.{slot_of}

map_reverse : {X Y : Type 0} (f : X → Y) (xs : List X) → map f (reverse xs) ≡ reverse (map f xs)
map_reverse f [] = refl
map_reverse f (x ∷ xs) =
    ap (map f) (reverse-append (x ∷ []) xs)
    ∙ (map-append f (reverse xs) (x ∷ []) ∙ (ap (λ l. l ++ f x ∷ []) (map_reverse f xs) ∙ sym (reverse-append (f x ∷ []) (map f xs))))

-- what is written back whole
pub refilled : {X : Type 0} (xs ws : List X) → length ws ≡ length xs → refill (length xs) xs ws ≡ ws
refilled xs ws same = take-append-le (length xs) ws (drop (length ws) xs) (omega (arith, same)) ∙ take_all (length xs) ws (omega (arith, same))

-- turned round twice, they show the slots from left to right
pub turned : (gs hs : List (Option (MutexGuard SlotView))) → hs ≡ reverse gs → reverse (map slot_of (refill (length gs) gs hs)) ≡ map slot_of gs
turned gs hs is =
    let same : length hs ≡ length gs = ap length is ∙ length-reverse gs in
    let whole : refill (length gs) gs hs ≡ reverse gs = refilled gs hs same ∙ is in
    ap (λ l. reverse (map slot_of l)) whole ∙ (ap reverse (map_reverse slot_of gs) ∙ reverse-reverse (map slot_of gs))
