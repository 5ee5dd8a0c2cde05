-- Slots that are held one after another, and let go so
use Rattle.slot_lock.proofs.Words.{◌≡◌, ℕ, zero, suc, ◌-◌, ◌^◌, ◌<◌, ◌≤◌, ◌⊎◌, inl, inr, ⊎_elim, Bool, true, Option, Some, None, refl, sym, ◌∙◌, ap, subst}
use Rattle.slot_lock.proofs.Words.{arith, if◌then◌else◌, cases_lt, has, IsPage, IsPageRange, by_test, has_in, in_has}
use Rattle.slot_lock.specs.Edges.{edges_below}
use Rattle.slot_lock.specs.Slots.{Slots, IsSlotBy, IsSlotMap, IsHeld, Locks, Unlocks, Splits, Divides, between, with_owner}
use Rattle.slot_lock.specs.SlotRuns.{OneByOne}
use Rattle.slot_lock.proofs.Divisions.{slot_by}
use Rattle.slot_lock.proofs.EdgeCounts.{edges_below-Divides, edges_below-most}
use Rattle.audit.specs.Keeping.{HeldFrom}

-- ---- divisions that are left

-- at how many valid pages no slot begins
pub missing : Slots → ℕ
missing s = 2 ^ 35 - edges_below s (2 ^ 35)

-- 1 where a slot begins
abbrev one : Bool → ℕ
one b = if b then 1 else 0

same_edges : (s t : Slots) → t.edge ≡ s.edge → (n : ℕ) → edges_below t n ≡ edges_below s n
unfolding edges_below
same_edges s t e zero = refl
same_edges s t e (suc n) =
    let a : one (t.edge n) ≡ one (s.edge n) = ap (λ f. one (f n)) e in
    let b = same_edges s t e n in
    omega (arith, a, b)

pub missing_same : (s t : Slots) → t.edge ≡ s.edge → missing t ≡ missing s
unfolding missing
missing_same s t e = ap (λ n. 2 ^ 35 - n) (same_edges s t e (2 ^ 35))

-- a division leaves fewer
missing_less : (s t : Slots) (owner : Option ℕ) (at : ℕ) → at < 2 ^ 35 → Divides s t owner at → missing t < missing s
unfolding missing
missing_less s t owner at l h =
    let a = edges_below-Divides s t owner at (2 ^ 35) h l in
    let b = edges_below-most t (2 ^ 35) in
    omega (arith, a, b)

pub missing_split : (s t : Slots) (cursor end : ℕ) → Splits s t cursor end → missing t < missing s
missing_split s t cursor end h = missing_less s t None h.divides.0 (h.divides.1).1 h.divides.2

-- ---- owners

-- the owner of a page, once the pages from a up to b have this one
inside : (s : Slots) (a b : ℕ) (o : Option ℕ) (p : ℕ) → a ≤ p → p < b → (with_owner s a b o).owner p ≡ o
inside s a b o p low high =
    by_test (λ x. x ≡ o) (has (between a b) p) o (s.owner p) (λ e. refl) (λ e. let h = in_has (between a b) p low high in absurd cc)

outside : (s : Slots) (a b : ℕ) (o : Option ℕ) (p : ℕ) → (p < a) ⊎ (b ≤ p) → (with_owner s a b o).owner p ≡ s.owner p
outside s a b o p out =
    by_test (λ x. x ≡ s.owner p) (has (between a b) p) o (s.owner p) (λ e. let h = has_in (between a b) p e in absurd (omega (arith, h, out))) (λ e. refl)

-- ---- letting go

pub slot_held : (s : Slots) (cursor end : ℕ) → HeldFrom s cursor end → cursor < end → IsSlotBy s cursor end
slot_held s cursor end h l = slot_by s cursor end l (h.cut l).0 (h.cut l).1

pub first_held : (s : Slots) (cursor end : ℕ) → HeldFrom s cursor end → cursor < end → s.owner cursor ≡ Some 0
first_held s cursor end h l = h.held cursor (omega arith) l

pub let_go_one : (s t : Slots) (cursor end b : ℕ) → HeldFrom s cursor end → cursor < end → Unlocks s t 0 cursor end b → HeldFrom t b end
let_go_one s t cursor end b h l u = subst (λ x. HeldFrom x b end) (sym u.now) (record {
  held = λ p low high. outside s cursor b None p (inr low) ∙ h.held p (let o = u.slot.ordered in omega (arith, low, o)) high;
  others = λ p out. by p (cases_lt p cursor) (cases_lt p b) out;
  cut = λ some. (u.slot.ends, (h.cut l).1);
})
  where
    by : (p : ℕ) → (p < cursor) ⊎ (cursor ≤ p) → (p < b) ⊎ (b ≤ p) → (p < b) ⊎ (end ≤ p) → (with_owner s cursor b None).owner p ≡ None
    by p (inl below) y out = outside s cursor b None p (inl below) ∙ h.others p (inl below)
    by p (inr low) (inl high) out = inside s cursor b None p low high
    by p (inr low) (inr above) (inl high) = absurd (omega (arith, above, high))
    by p (inr low) (inr above) (inr past) = outside s cursor b None p (inr above) ∙ h.others p (inr past)

-- slots were let go one after another
pub run_let_go : (s t : Slots) (cursor end n upto : ℕ) → HeldFrom s cursor end → cursor ≤ end
    → OneByOne (λ x y a b. Unlocks x y 0 a end b) s t cursor n upto
    → HeldFrom t upto end × (t.info ≡ s.info) × (t.edge ≡ s.edge) × (cursor ≤ upto) × (upto ≤ end)
run_let_go s t cursor end zero upto h l (same, at) = (
  subst (λ x. HeldFrom x upto end) (sym same) (subst (λ n. HeldFrom s n end) (sym at) h),
  ap (λ x. x.info) same,
  ap (λ x. x.edge) same,
  omega (arith, at),
  omega (arith, at, l),
)
run_let_go s t cursor end (suc n) upto h l (m, (b, before, u)) =
    let (held, info, edge, low, high) = run_let_go s m cursor end n b h l before in
    let o = u.slot.ordered in
    let e = u.by_end in (
      let_go_one m t b end upto held (omega (arith, o, e)) u,
      ap (λ x. x.info) u.now ∙ info,
      ap (λ x. x.edge) u.now ∙ edge,
      omega (arith, low, o),
      e,
    )

-- what is held is a page
held_page : (s : Slots) → IsSlotMap s → (p : ℕ) → s.owner p ≡ Some 0 → IsPage p
held_page s m p h = by (cases_lt 0 p) (cases_lt p (2 ^ 35))
  where
    by : (0 < p) ⊎ (p ≤ 0) → (p < 2 ^ 35) ⊎ (2 ^ 35 ≤ p) → IsPage p
    by (inl a) (inl b) = (omega (arith, a), b)
    by (inr a) y = let none = m.free p (λ i. let one = i.0 in absurd (omega (arith, a, one))) in absurd cc
    by (inl a) (inr b) = let none = m.free p (λ i. let below = i.1 in absurd (omega (arith, b, below))) in absurd cc

pub valid_held : (s : Slots) → IsSlotMap s → (cursor end : ℕ) → HeldFrom s cursor end → cursor < end → (1 ≤ cursor) × (end ≤ 2 ^ 35)
valid_held s m cursor end h l =
    let first = held_page s m cursor (first_held s cursor end h l) in
    let last = held_page s m (end - 1) (h.held (end - 1) (omega (arith, l)) (omega (arith, l))) in
    let below = last.1 in
    (first.0, omega (arith, below, l))

-- ---- holding

pub held_locked : (s t : Slots) (first cursor end b : ℕ) → HeldFrom s first cursor → first ≤ cursor → Locks s t 0 cursor end b → HeldFrom t first b
held_locked s t first cursor end b h low x = subst (λ y. HeldFrom y first b) (sym x.now) (record {
  held = λ p a c. ⊎_elim
      (λ (l : p < cursor). outside s cursor b (Some 0) p (inl l) ∙ h.held p a l)
      (λ (l : cursor ≤ p). inside s cursor b (Some 0) p l c)
      (cases_lt p cursor);
  others = λ p out. by p out;
  cut = λ some. (begins (cases_lt first cursor), x.slot.ends);
})
  where
    begins : (first < cursor) ⊎ (cursor ≤ first) → s.edge first ≡ true
    begins (inl l) = (h.cut l).0
    begins (inr l) = let same : cursor ≡ first = omega (arith, l, low) in subst (λ n. s.edge n ≡ true) same x.slot.begins

    by : (p : ℕ) → (p < first) ⊎ (b ≤ p) → (with_owner s cursor b (Some 0)).owner p ≡ None
    by p (inl l) = outside s cursor b (Some 0) p (inl (omega (arith, l, low))) ∙ h.others p (inl l)
    by p (inr l) = let o = x.slot.ordered in outside s cursor b (Some 0) p (inr l) ∙ h.others p (inr (omega (arith, l, o)))

-- slots were locked one after another
pub run_held : (s t : Slots) (first cursor end n upto : ℕ) → HeldFrom s first cursor → first ≤ cursor → cursor ≤ end
    → OneByOne (λ x y a b. Locks x y 0 a end b) s t cursor n upto
    → HeldFrom t first upto × (t.info ≡ s.info) × (t.edge ≡ s.edge) × (cursor ≤ upto) × (upto ≤ end)
run_held s t first cursor end zero upto h f l (same, at) = (
  subst (λ x. HeldFrom x first upto) (sym same) (subst (λ n. HeldFrom s first n) (sym at) h),
  ap (λ x. x.info) same,
  ap (λ x. x.edge) same,
  omega (arith, at),
  omega (arith, at, l),
)
run_held s t first cursor end (suc n) upto h f l (m, (b, before, x)) =
    let (held, info, edge, low, high) = run_held s m first cursor end n b h f l before in
    let o = x.slot.ordered in (
      held_locked m t first b end upto held (omega (arith, f, low)) x,
      ap (λ y. y.info) x.now ∙ info,
      ap (λ y. y.edge) x.now ∙ edge,
      omega (arith, low, o),
      x.by_end,
    )

pub free_next : (s : Slots) (first cursor : ℕ) → HeldFrom s first cursor → s.owner cursor ≡ None
free_next s first cursor h = h.others cursor (inr (omega arith))

-- what a call holds that has locked its range
pub held_range : (s : Slots) (range : _) → IsPageRange range → HeldFrom s range.first range.end → IsHeld s 0 range
held_range s range r h = record {
  pages = r;
  cut = let e = h.cut r.some in record { begins = e.0; ends = e.1 };
  held = h.held;
}
