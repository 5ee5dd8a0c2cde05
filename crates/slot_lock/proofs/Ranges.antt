-- Slots of a range that get another owner one after another: as many as begin in the range
use Rattle.slot_lock.proofs.Words.{◌≡◌, ℕ, zero, suc, ◌+◌, ◌-◌, ◌<◌, ◌≤◌, ⊎_elim, Bool, true, false, Option, refl, sym, ap, ◌∙◌, subst}
use Rattle.slot_lock.proofs.Words.{arith, cases_lt, cond, fun_ext, has, has_in, in_has}
use Rattle.slot_lock.specs.Slots.{Slots, IsSlot, between, with_owner}
use Rattle.slot_lock.specs.SlotRuns.{OneByOne}
use Rattle.slot_lock.specs.Edges.{edges_below}
use Rattle.slot_lock.proofs.Surveys.{edges_one, edges_rise, one_if}

-- no page is another's
with_none : (s : Slots) (at : ℕ) (owner : Option ℕ) → with_owner s at at owner ≡ s
with_none s at owner = ap (λ o. record s { owner = o }) (fun_ext (λ p. go p (has (between at at) p) refl))
  where
    go : (p : ℕ) (b : Bool) → has (between at at) p ≡ b → cond b owner (s.owner p) ≡ s.owner p
    go p true e = let m = has_in (between at at) p e in absurd (omega (arith, m.0, m.1))
    go p false e = refl

-- the pages of one slot more
with_more : (s : Slots) (first at end : ℕ) (owner : Option ℕ) → first ≤ at → at ≤ end
    → with_owner s first end owner ≡ with_owner (with_owner s first at owner) at end owner
with_more s first at end owner low high =
    ap (λ o. record s { owner = o }) (fun_ext (λ p. go p (has (between first end) p) (has (between first at) p) (has (between at end) p) refl refl refl))
  where
    go : (p : ℕ) (a b c : Bool) → has (between first end) p ≡ a → has (between first at) p ≡ b → has (between at end) p ≡ c
        → cond a owner (s.owner p) ≡ cond c owner (cond b owner (s.owner p))
    go p true true true d e f = refl
    go p true true false d e f = refl
    go p true false true d e f = refl
    go p true false false d e f =
        let m = has_in (between first end) p d in ⊎_elim
        (λ (l : p < at). let wrong : false ≡ true = sym e ∙ in_has (between first at) p m.0 l in absurd cc)
        (λ (r : at ≤ p). let wrong : false ≡ true = sym f ∙ in_has (between at end) p r m.1 in absurd cc)
        (cases_lt p at)
    go p false true c d e f =
        let m = has_in (between first at) p e in
        let wrong : false ≡ true = sym d ∙ in_has (between first end) p m.0 (omega (arith, m.1)) in absurd cc
    go p false false true d e f =
        let m = has_in (between at end) p f in
        let wrong : false ≡ true = sym d ∙ in_has (between first end) p (omega (arith, m.0)) m.1 in absurd cc
    go p false false false d e f = refl

-- The slots of pages that have one owner, where one begins at the first page, get another, one after another. Each such change of a slot is one
-- of these changes.
module _ (s : Slots) (first end : ℕ) (from to : Option ℕ) (changes : Slots → Slots → ℕ → ℕ → Type 0)
    (begins : s.edge first ≡ true) (owned : (p : ℕ) → first ≤ p → p < end → s.owner p ≡ from)
    (each : (m t : Slots) (a b : ℕ) → IsSlot m a b → b ≤ end → ((p : ℕ) → a ≤ p → p < b → m.owner p ≡ from) → t ≡ with_owner m a b to
    → changes m t a b) where
  -- the last of them is the slot from a page up to an end
  last : (at upto : ℕ) → first ≤ at → at < upto → upto ≤ end → s.edge at ≡ true → s.edge upto ≡ true
      → ((p : ℕ) → at < p → p < upto → s.edge p ≡ false) → changes (with_owner s first at to) (with_owner s first upto to) at upto
  last at upto low some high starts ends inside =
      each (with_owner s first at to) (with_owner s first upto to) at upto
      (record { ordered = some; begins = starts; ends = ends; inside = inside }) high (λ p a b. go p (has (between first at) p) refl a b)
      (with_more s first at upto to low (omega arith))
    where
      go : (p : ℕ) (b : Bool) → has (between first at) p ≡ b → at ≤ p → p < upto → cond b to (s.owner p) ≡ from
      go p true e a l = let m = has_in (between first at) p e in absurd (omega (arith, m.1, a))
      go p false e a l = owned p (omega (arith, low, a)) (omega (arith, l, high))

  -- what is to be shown of the slots up to one, where from a page up to its start none begins
  abbrev RunsTo : ℕ → ℕ → ℕ → Type 0
  RunsTo from_page upto n = from_page ≤ upto → upto ≤ end → s.edge upto ≡ true → ((p : ℕ) → from_page ≤ p → p < upto → s.edge p ≡ false)
      → edges_below s upto ≡ edges_below s first + n → OneByOne changes s (with_owner s first upto to) first n upto

  -- a page further down
  at_page : (j upto n : ℕ) (b : Bool) → s.edge (first + j) ≡ b → ((u k : ℕ) → RunsTo (first + j) u k) → RunsTo (first + suc j) upto n
  at_page j upto n false e rest low high ends inside count =
      rest upto n (omega (arith, low)) high ends (λ p a b. ⊎_elim
      (λ (l : first + j < p). inside p (omega (arith, l)) b)
      (λ (r : p ≤ first + j). let same : p ≡ first + j = omega (arith, a, r) in ap s.edge same ∙ e)
      (cases_lt (first + j) p)) count
  at_page j upto zero true e rest low high ends inside count =
      let one = edges_one s (first + j) upto (omega (arith, low)) (λ p a b. inside p (omega (arith, a)) b) in
      let rise = edges_rise s first j in
      let more = ap one_if e in
      absurd (omega (arith, one, rise, more, count))
  at_page j upto (suc n) true e rest low high ends inside count =
      let one = edges_one s (first + j) upto (omega (arith, low)) (λ p a b. inside p (omega (arith, a)) b) in
      let more = ap one_if e in (
        with_owner s first (first + j) to,
        (
          first + j,
          rest (first + j) n (omega arith) (omega (arith, low, high)) e (λ p a b. absurd (omega (arith, a, b))) (omega (arith, one, more, count)),
          last (first + j) upto (omega arith) (omega (arith, low)) high e ends (λ p a b. inside p (omega (arith, a)) b),
        ),
      )

  -- the first page
  at_first : (upto n : ℕ) → RunsTo (first + zero) upto n
  at_first upto n low high ends inside count = ⊎_elim
      (λ (l : first < upto). let wrong : false ≡ true = sym (inside first (omega arith) l) ∙ begins in absurd cc)
      (λ (r : upto ≤ first).
      let same : upto ≡ first = omega (arith, low, r) in
      let none : 0 ≡ n = let k = ap (edges_below s) same in omega (arith, k, count) in
      subst (λ n. OneByOne changes s (with_owner s first upto to) first n upto) none
      (ap (λ u. with_owner s first u to) same ∙ with_none s first to, same))
      (cases_lt first upto)

  -- looked through from the end on
  runs_to : (j upto n : ℕ) → RunsTo (first + j) upto n
  runs_to zero upto n = at_first upto n
  runs_to (suc j) upto n = at_page j upto n (s.edge (first + j)) refl (runs_to j)

  pub each_slot : (n : ℕ) → first ≤ end → s.edge end ≡ true → edges_below s end ≡ edges_below s first + n
      → OneByOne changes s (with_owner s first end to) first n end
  each_slot n order ends count =
      runs_to (end - first) end n (omega arith) (omega arith) ends (λ p a b. absurd (omega (arith, a, b))) count
