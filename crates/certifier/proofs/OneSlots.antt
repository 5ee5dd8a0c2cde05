-- There is one way to lock, to unlock, to divide and to fold slots
use Rattle.std.proofs.Common.{◌≡◌, ℕ, zero, suc, ◌+◌, ◌-◌, ◌*◌, ◌/◌, ◌<◌, ◌≤◌, Bool, inl, inr, refl, sym, subst, ap, ◌∙◌, arith, Some, None}
use Rattle.vm_base.specs.declared.page.PageRange.{PageRange}
use Rattle.slot_lock.proofs.Facts.{two}
use Rattle.slot_lock.specs.Slots.{Slots, Crosses, DividesAs, IsCrossed, IsCut, IsSlot, Locks, Unlocks, divided, with_owner}
use Rattle.radix_node.specs.Run.{width_of}
use Rattle.radix_range.specs.Folds.{CanFold, FoldsNode, joined}

-- ---- slots

-- a slot ends at one page
pub one_end : (s : Slots) (a b d : ℕ) → IsSlot s a b → IsSlot s a d → b ≡ d
one_end s a b d h k =
    let not_below : ¬ b < d = λ l. two _ (k.inside b h.ordered l) h.ends in
    let not_above : ¬ d < b = λ l. two _ (h.inside d k.ordered l) k.ends in
    omega (arith, not_below, not_above)

-- one slot has a page
one_around : (s : Slots) (a b c d at : ℕ) → IsSlot s a b → IsSlot s c d → a ≤ at → at < b → c ≤ at → at < d → (a ≡ c) × (b ≡ d)
one_around s a b c d at h k low high from until =
    let not_below : ¬ a < c = λ l. two _ (h.inside c l (omega (arith, from, high))) k.begins in
    let not_above : ¬ c < a = λ l. two _ (k.inside a l (omega (arith, low, until))) h.begins in
    let first : a ≡ c = omega (arith, not_below, not_above) in
    (first, one_end s a b d h (subst (λ n. IsSlot s n d) (sym first) k))

pub one_lock : (s t u : Slots) (core cursor end b d : ℕ) → Locks s t core cursor end b → Locks s u core cursor end d → (b ≡ d) × (t ≡ u)
one_lock s t u core cursor end b d h k =
    let same = one_end s cursor b d h.slot k.slot in
    (same, h.now ∙ ap (λ n. with_owner s cursor n (Some core)) same ∙ sym k.now)

pub one_unlock : (s t u : Slots) (core cursor end b d : ℕ) → Unlocks s t core cursor end b → Unlocks s u core cursor end d → (b ≡ d) × (t ≡ u)
one_unlock s t u core cursor end b d h k =
    let same = one_end s cursor b d h.slot k.slot in
    (same, h.now ∙ ap (λ n. with_owner s cursor n None) same ∙ sym k.now)

-- a slot that crosses an edge of the pages isn't locked whole
pub crossed_not_locked : (s : Slots) (cursor end b : ℕ) → Crosses s cursor end → IsSlot s cursor b → b ≤ end → ⊥
crossed_not_locked s cursor end b (inl inside) slot by_end = two _ inside slot.begins
crossed_not_locked s cursor end b (inr past) slot by_end = two _ (past b slot.ordered by_end) slot.ends

-- nor is a range cut that a slot crosses
pub crossed_not_cut : (s : Slots) (range : PageRange) → IsCrossed s range → IsCut s range → ⊥
crossed_not_cut s range (inl inside) cut = two _ inside cut.begins
crossed_not_cut s range (inr past) cut = two _ past cut.ends

pub one_division : (parts : PageRange → ℕ → ℕ → Bool) (s t u : Slots) (at : ℕ) → DividesAs parts s t at → DividesAs parts s u at → t ≡ u
one_division parts s t u at h k =
    let above = h.above in
    let also_above = k.above in
    let same = one_around s h.slot.first h.slot.end k.slot.first k.slot.end at h.is_slot k.is_slot (omega (arith, above)) h.below
    (omega (arith, also_above)) k.below in
    let slot : h.slot ≡ k.slot = λ j. record { first = same.0 j; end = same.1 j } in
    h.now ∙ ap (λ (r : PageRange). divided s r (parts r at)) slot ∙ sym k.now

-- ---- nodes that can be folded

-- the 512 slots of a node of this level have the page, behind so many other nodes
record IsNode (s : Slots) (page level before : ℕ) : Type 0 where
  pub from : before * width_of (level + 1) ≤ page
  pub until : page < before * width_of (level + 1) + width_of (level + 1)
  pub slots : (k : ℕ) → k < 512
      → IsSlot s (before * width_of (level + 1) + k * width_of level) (before * width_of (level + 1) + k * width_of level + width_of level)

node_of : (s : Slots) (page : ℕ) → (c : CanFold s page) → IsNode s page c.level c.before
node_of s page c = record { from = c.from; until = c.until; slots = c.slots }

-- no slot begins inside a slot
not_inside : (s : Slots) (a b x y : ℕ) → IsSlot s a b → IsSlot s x y → a < x → x < b → ⊥
not_inside s a b x y h k low high = two _ (h.inside x low high) k.begins

-- a node has no slots inside a slot of another
apart_01 : (s : Slots) (page a b : ℕ) → IsNode s page 0 a → IsNode s page 1 b → ⊥
apart_01 s page a b h k =
    let low : a * 512 ≤ page = h.from in
    let high : page < a * 512 + 512 = h.until in
    let from : b * 262144 ≤ page = k.from in
    let until : page < b * 262144 + 262144 = k.until in
    let inner : IsSlot s (a * 512 + 1 * 1) (a * 512 + 1 * 1 + 1) = h.slots 1 (omega arith) in
    let n : ℕ = page / 512 - b * 512 in
    let outer : IsSlot s (b * 262144 + n * 512) (b * 262144 + n * 512 + 512) = k.slots n (omega (arith, from, until)) in
    not_inside s _ _ _ _ outer inner (omega (arith, low, high, from, until)) (omega (arith, low, high, from, until))

apart_02 : (s : Slots) (page a b : ℕ) → IsNode s page 0 a → IsNode s page 2 b → ⊥
apart_02 s page a b h k =
    let low : a * 512 ≤ page = h.from in
    let high : page < a * 512 + 512 = h.until in
    let from : b * 134217728 ≤ page = k.from in
    let until : page < b * 134217728 + 134217728 = k.until in
    let inner : IsSlot s (a * 512 + 1 * 1) (a * 512 + 1 * 1 + 1) = h.slots 1 (omega arith) in
    let n : ℕ = page / 262144 - b * 512 in
    let outer : IsSlot s (b * 134217728 + n * 262144) (b * 134217728 + n * 262144 + 262144) = k.slots n (omega (arith, from, until)) in
    not_inside s _ _ _ _ outer inner (omega (arith, low, high, from, until)) (omega (arith, low, high, from, until))

apart_12 : (s : Slots) (page a b : ℕ) → IsNode s page 1 a → IsNode s page 2 b → ⊥
apart_12 s page a b h k =
    let low : a * 262144 ≤ page = h.from in
    let high : page < a * 262144 + 262144 = h.until in
    let from : b * 134217728 ≤ page = k.from in
    let until : page < b * 134217728 + 134217728 = k.until in
    let inner : IsSlot s (a * 262144 + 1 * 512) (a * 262144 + 1 * 512 + 512) = h.slots 1 (omega arith) in
    let n : ℕ = page / 262144 - b * 512 in
    let outer : IsSlot s (b * 134217728 + n * 262144) (b * 134217728 + n * 262144 + 262144) = k.slots n (omega (arith, from, until)) in
    not_inside s _ _ _ _ outer inner (omega (arith, low, high, from, until)) (omega (arith, low, high, from, until))

one_node : (s : Slots) (page l m a b : ℕ) → l < 3 → m < 3 → IsNode s page l a → IsNode s page m b → (l ≡ m) × (a ≡ b)
one_node s page zero zero a b lt mt h k =
    let low : a * 512 ≤ page = h.from in
    let high : page < a * 512 + 512 = h.until in
    let from : b * 512 ≤ page = k.from in
    let until : page < b * 512 + 512 = k.until in
    (refl, omega (arith, low, high, from, until))
one_node s page (suc zero) (suc zero) a b lt mt h k =
    let low : a * 262144 ≤ page = h.from in
    let high : page < a * 262144 + 262144 = h.until in
    let from : b * 262144 ≤ page = k.from in
    let until : page < b * 262144 + 262144 = k.until in
    (refl, omega (arith, low, high, from, until))
one_node s page (suc (suc zero)) (suc (suc zero)) a b lt mt h k =
    let low : a * 134217728 ≤ page = h.from in
    let high : page < a * 134217728 + 134217728 = h.until in
    let from : b * 134217728 ≤ page = k.from in
    let until : page < b * 134217728 + 134217728 = k.until in
    (refl, omega (arith, low, high, from, until))
one_node s page zero (suc zero) a b lt mt h k = absurd (apart_01 s page a b h k)
one_node s page (suc zero) zero a b lt mt h k = absurd (apart_01 s page b a k h)
one_node s page zero (suc (suc zero)) a b lt mt h k = absurd (apart_02 s page a b h k)
one_node s page (suc (suc zero)) zero a b lt mt h k = absurd (apart_02 s page b a k h)
one_node s page (suc zero) (suc (suc zero)) a b lt mt h k = absurd (apart_12 s page a b h k)
one_node s page (suc (suc zero)) (suc zero) a b lt mt h k = absurd (apart_12 s page b a k h)
one_node s page (suc (suc (suc l))) m a b lt mt h k = absurd (omega (arith, lt))
one_node s page l (suc (suc (suc m))) a b lt mt h k = absurd (omega (arith, mt))

pub one_fold : (s t u : Slots) (page : ℕ) → FoldsNode s t page → FoldsNode s u page → t ≡ u
one_fold s t u page h k =
    let a = h.could in
    let b = k.could in
    let same = one_node s page a.level b.level a.before b.before a.below_root b.below_root (node_of s page a) (node_of s page b) in
    h.now ∙ (ap (λ n. joined s (n * width_of (a.level + 1)) (n * width_of (a.level + 1) + width_of (a.level + 1))) same.1
    ∙ ap (λ l. joined s (b.before * width_of (l + 1)) (b.before * width_of (l + 1) + width_of (l + 1))) same.0) ∙ sym k.now
