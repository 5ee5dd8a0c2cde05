-- Held slots that get room one after another
use Rattle.slot_lock.proofs.Words.{◌≡◌, ℕ, zero, suc, ◌+◌, ◌<◌, List, [], ◌∷◌, map, length, take, set, get_or, Option, refl, sym, ap, ◌∙◌, subst, arith, All}
use Rattle.slot_lock.proofs.Words.{MutexGuard, map-append, length-map, All-append}
use Rattle.std.proofs.lemmas.List.{take_more_set}
use Rattle.live_levels.specs.Slots.{SlotView}
use Rattle.live_tree.specs.Guards.{slot_of}
use Rattle.live_tree.specs.Held.{AreAlike, SideBySide, without_room}
use Rattle.live_tree.proofs.Pushed.{side_map, all_of_one}

-- a change of one guard that leaves its slot as it is but for room
set_alike : (xs : List (Option (MutexGuard SlotView))) (i : ℕ) (x y : Option (MutexGuard SlotView)) → i < length xs → x ≡ get_or xs i x
    → without_room (slot_of y) ≡ without_room (slot_of x)
    → AreAlike (map slot_of (set xs i y)) (map slot_of xs)
set_alike [] i x y lt is e = absurd (omega arith)
set_alike (z ∷ zs) zero x y lt is e = ap (λ w. w ∷ map without_room (map slot_of zs)) (e ∙ ap (λ v. without_room (slot_of v)) is)
set_alike (z ∷ zs) (suc i) x y lt is e = ap (λ l. without_room (slot_of z) ∷ l) (set_alike zs i x y (omega arith) is e)

pub one_alike : (xs ys : List (Option (MutexGuard SlotView))) (i : ℕ) (x y : Option (MutexGuard SlotView)) → i < length xs
    → x ≡ get_or xs i x → without_room (slot_of y) ≡ without_room (slot_of x)
    → AreAlike (map slot_of xs) (map slot_of ys) → AreAlike (map slot_of (set xs i y)) (map slot_of ys)
one_alike xs ys i x y lt is e h = set_alike xs i x y lt is e ∙ h

length_maps : (xs : List (Option (MutexGuard SlotView))) → length (map without_room (map slot_of xs)) ≡ length xs
length_maps xs = length-map (map slot_of xs) without_room ∙ length-map xs slot_of

pub alike_length : (xs ys : List (Option (MutexGuard SlotView))) → AreAlike (map slot_of xs) (map slot_of ys) → length xs ≡ length ys
alike_length xs ys h = sym (length_maps xs) ∙ (ap length h ∙ length_maps ys)

-- one more of the first items has what they all have
pub All-take-set : {X Y : Type 0} (f : X → Y) (P : Y → Type 0) (xs : List X) (i : ℕ) (y : X) → i < length xs → All P (map f (take i xs))
    → P (f y) → All P (map f (take (i + 1) (set xs i y)))
All-take-set f P xs i y lt h p = rw (take_more_set xs i y lt, map-append f (take i xs) (y ∷ []))
    (All-append P (map f (take i xs)) (f y ∷ []) h (all_of_one P (f y) p))

bare_of_side : (first end : ℕ) (ss : List SlotView) → SideBySide first end (map without_room ss) → SideBySide first end ss
bare_of_side first end [] h = h
bare_of_side first end (s ∷ ss) h = (h.0, bare_of_side (first + s.count) end ss h.1)

pub alike_side : (first end : ℕ) (ss ts : List SlotView) → AreAlike ss ts → SideBySide first end ts → SideBySide first end ss
alike_side first end ss ts same h = bare_of_side first end ss (subst (SideBySide first end) (sym same) (side_map without_room (λ _. refl)
    (λ _. refl) first end ts h))
