-- Slots that are added to a map one after another
use Rattle.slot_lock.proofs.Words.{◌≡◌, ◌⊎◌, ⊎_elim, inl, inr, ℕ, suc, ◌+◌, ◌-◌, ◌<◌, ◌≤◌, nat_lt, Bool, true, false, cond, List, [], ◌∷◌, ◌++◌, map, length}
use Rattle.slot_lock.proofs.Words.{take, drop, get_or, Option, Some, refl, sym, ap, ◌∙◌, subst, arith, MutexGuard, cases_lt, nat_tests, map-append, take_all}
use Rattle.slot_lock.proofs.Words.{take_more, has, info_from, in_has}
use Rattle.std.proofs.Math.Seq.{split_at}
use Rattle.slot_lock.specs.Adding.{with_slot}
use Rattle.slot_lock.specs.Slots.{Slots, between}
use Rattle.live_levels.specs.Slots.{SlotView, content_at}
use Rattle.live_tree.specs.Guards.{slot_of}
use Rattle.live_tree.specs.Held.{SideBySide}
use Rattle.live_tree.specs.Shown.{Lends, slot_at, shown}
use Rattle.live_tree.proofs.Cuts.{side_split}
use Rattle.live_tree.proofs.Pushed.{side_by_side_more}

side_rises : (first end : ℕ) (ss : List SlotView) → SideBySide first end ss → first ≤ end
side_rises first end [] h = omega (arith, h)
side_rises first end (s ∷ ss) h = omega (arith, side_rises (first + s.count) end ss h.1)

pub side_end : (first a b : ℕ) (ss : List SlotView) → SideBySide first a ss → SideBySide first b ss → a ≡ b
side_end first a b [] h k = sym h ∙ k
side_end first a b (s ∷ ss) h k = side_end (first + s.count) a b ss h.1 k.1

pub cond_true : {X : Type 0} (b : Bool) (x y : X) → b ≡ true → cond b x y ≡ x
cond_true true x y e = refl
cond_true false x y e = cc

pub cond_false : {X : Type 0} (b : Bool) (x y : X) → b ≡ false → cond b x y ≡ y
cond_false true x y e = cc
cond_false false x y e = refl

same_choice : {X : Type 0} (b : Bool) (x y z : X) → (b ≡ false → y ≡ z) → cond b x y ≡ cond b x z
same_choice true x y z h = refl
same_choice false x y z h = h refl

slot_at_front : (first end : ℕ) (ss : List SlotView) (s : SlotView) (p : ℕ) → SideBySide first end ss → first ≤ p → p < end
    → slot_at (ss ++ s ∷ []) p ≡ slot_at ss p
slot_at_front first end [] s p side low high = absurd (omega (arith, side))
slot_at_front first end (x ∷ xs) s p side low high =
    let f = side.0 in
    same_choice (nat_lt p (x.first + x.count)) x (slot_at (xs ++ s ∷ []) p) (slot_at xs p)
    (λ e. slot_at_front (first + x.count) end xs s p side.1 (grind (arith, nat_tests)) high)

slot_at_last : (first end : ℕ) (ss : List SlotView) (s : SlotView) (p : ℕ) → SideBySide first end ss → end ≤ p → p < s.first + s.count
    → slot_at (ss ++ s ∷ []) p ≡ s
slot_at_last first end [] s p side low high = cond_true (nat_lt p (s.first + s.count)) s _ (grind (arith, nat_tests))
slot_at_last first end (x ∷ xs) s p side low high =
    let f = side.0 in
    let r = side_rises (first + x.count) end xs side.1 in
    cond_false (nat_lt p (x.first + x.count)) x (slot_at (xs ++ s ∷ []) p) (grind (arith, nat_tests))
    ∙ slot_at_last (first + x.count) end xs s p side.1 low high

has_not : (a b p : ℕ) → (p < a) ⊎ (b ≤ p) → has (between a b) p ≡ false
has_not a b p o = ⊎_elim (λ (h : p < a). grind (arith, nat_tests)) (λ (h : b ≤ p). grind (arith, nat_tests)) o

pub lends_more : (core first mid end : ℕ) (ss : List SlotView) (s : SlotView) (m n : Slots)
    → Lends core (record { first = first; end = mid; slots = ss }) m → SideBySide first mid ss
    → s.first ≡ mid → end ≡ mid + s.count → n ≡ with_slot m s.first (s.first + s.count) (Some core) s.content
    → Lends core (record { first = first; end = end; slots = ss ++ s ∷ [] }) n
lends_more core first mid end ss s m n h side at ends is = record {
  info = λ p low high. ap (λ t. t.info p) is ∙ ⊎_elim (info_before p low) (info_here p high) (cases_lt p mid);
  owner = λ p low high. ap (λ t. t.owner p) is ∙ ⊎_elim (owner_before p low) (owner_here p high) (cases_lt p mid);
  unmapped = λ p o. ap (λ t. t.info p) is ∙ (cond_false (has (between s.first (s.first + s.count)) p) (info_from s.content (p - s.first))
      (m.info p) (outside p o) ∙ h.unmapped p (before p o));
  free = λ p o. ap (λ t. t.owner p) is ∙ (cond_false (has (between s.first (s.first + s.count)) p) (Some core) (m.owner p) (outside p o)
      ∙ h.free p (before p o));
}
  where
    rises : first ≤ mid
    rises = side_rises first mid ss side

    outside : (p : ℕ) → (p < first) ⊎ (end ≤ p) → has (between s.first (s.first + s.count)) p ≡ false
    outside p o = has_not s.first (s.first + s.count) p (⊎_elim (λ (l : p < first). inl (omega (arith, at, rises, l)))
        (λ (l : end ≤ p). inr (omega (arith, at, ends, l))) o)

    before : (p : ℕ) → (p < first) ⊎ (end ≤ p) → (p < first) ⊎ (mid ≤ p)
    before p o = ⊎_elim (λ (l : p < first). inl l) (λ (l : end ≤ p). inr (omega (arith, ends, l))) o

    info_before : (p : ℕ) → first ≤ p → p < mid → (with_slot m s.first (s.first + s.count) (Some core) s.content).info p ≡ (shown (ss ++ s ∷ [])).info p
    info_before p low lt =
        cond_false (has (between s.first (s.first + s.count)) p) (info_from s.content (p - s.first)) (m.info p)
        (has_not s.first (s.first + s.count) p (inl (omega (arith, at, lt))))
        ∙ (h.info p low lt ∙ sym (ap (λ u. content_at u p) (slot_at_front first mid ss s p side low lt)))

    info_here : (p : ℕ) → p < end → mid ≤ p → (with_slot m s.first (s.first + s.count) (Some core) s.content).info p ≡ (shown (ss ++ s ∷ [])).info p
    info_here p high le =
        cond_true (has (between s.first (s.first + s.count)) p) (info_from s.content (p - s.first)) (m.info p)
        (in_has (between s.first (s.first + s.count)) p (omega (arith, at, le)) (omega (arith, at, ends, high)))
        ∙ sym (ap (λ u. content_at u p) (slot_at_last first mid ss s p side le (omega (arith, at, ends, high))))

    owner_before : (p : ℕ) → first ≤ p → p < mid → (with_slot m s.first (s.first + s.count) (Some core) s.content).owner p ≡ Some core
    owner_before p low lt =
        cond_false (has (between s.first (s.first + s.count)) p) (Some core) (m.owner p)
        (has_not s.first (s.first + s.count) p (inl (omega (arith, at, lt)))) ∙ h.owner p low lt

    owner_here : (p : ℕ) → p < end → mid ≤ p → (with_slot m s.first (s.first + s.count) (Some core) s.content).owner p ≡ Some core
    owner_here p high le =
        cond_true (has (between s.first (s.first + s.count)) p) (Some core) (m.owner p)
        (in_has (between s.first (s.first + s.count)) p (omega (arith, at, le)) (omega (arith, at, ends, high)))

-- the first i slots of the guards were added
pub record LentSoFar (core first : ℕ) (gs : List (Option (MutexGuard SlotView))) (i : ℕ) (m : Slots) : Type 0 where
  pub end : ℕ
  pub side : SideBySide first end (map slot_of (take i gs))
  pub lends : Lends core (record { first = first; end = end; slots = map slot_of (take i gs) }) m

pub lent_more : (core first last : ℕ) (gs : List (Option (MutexGuard SlotView))) (i : ℕ) (g : Option (MutexGuard SlotView)) (m n : Slots)
    → SideBySide first last (map slot_of gs) → i < length gs → g ≡ get_or gs i g
    → LentSoFar core first gs i m → n ≡ with_slot m (slot_of g).first ((slot_of g).first + (slot_of g).count) (Some core)
    (slot_of g).content → LentSoFar core first gs (i + 1) n
lent_more core first last gs i g m n side lt is h added =
    let s = slot_of g in
    let whole : map slot_of gs ≡ map slot_of (take i gs) ++ s ∷ map slot_of (drop (suc i) gs) =
    ap (map slot_of) (split_at gs i g lt) ∙ (map-append slot_of (take i gs) (get_or gs i g ∷ drop (suc i) gs)
    ∙ ap (λ x. map slot_of (take i gs) ++ slot_of x ∷ map slot_of (drop (suc i) gs)) (sym is)) in
    let at : s.first ≡ h.end = side_end first s.first h.end (map slot_of (take i gs)) (side_split first last (map slot_of (take i gs)) s
    (map slot_of (drop (suc i) gs)) (subst (SideBySide first last) whole side)).0 h.side in
    let grown : map slot_of (take (i + 1) gs) ≡ map slot_of (take i gs) ++ s ∷ [] =
    ap (map slot_of) (take_more gs i g lt) ∙ (map-append slot_of (take i gs) (get_or gs i g ∷ [])
    ∙ ap (λ x. map slot_of (take i gs) ++ slot_of x ∷ []) (sym is)) in
    record {
      end = h.end + s.count;
      side = rw grown (side_by_side_more first h.end (h.end + s.count) (map slot_of (take i gs)) s h.side at refl);
      lends = rw grown (lends_more core first h.end (h.end + s.count) (map slot_of (take i gs)) s m n h.lends h.side at refl added);
    }

pub lent_all : (core first end : ℕ) (gs : List (Option (MutexGuard SlotView))) (i : ℕ) (m : Slots) → length gs ≤ i
    → SideBySide first end (map slot_of gs) → LentSoFar core first gs i m
    → Lends core (record { first = first; end = end; slots = map slot_of gs }) m
lent_all core first end gs i m le side h =
    let all : take i gs ≡ gs = take_all i gs le in
    let at : h.end ≡ end = side_end first h.end end (map slot_of gs) (subst (λ l. SideBySide first h.end (map slot_of l)) all h.side) side in
    subst (λ l. Lends core (record { first = first; end = end; slots = map slot_of l }) m) all
    (subst (λ (e : ℕ). Lends core (record { first = first; end = e; slots = map slot_of (take i gs) }) m) at h.lends)
