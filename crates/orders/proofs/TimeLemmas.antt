-- Times of items
use Rattle.std.proofs.Common.{◌≡◌, ℕ, zero, suc, ◌+◌, ◌<◌, ◌≤◌, ◌⊎◌, inl, inr, List, [], ◌∷◌, None, Some, ap, arith, length, max, refl, slice_get}
use Rattle.std.proofs.Common.{subst, sym, ◌∙◌}
use Rattle.orders.specs.declared.history.Item.{Item}
use Rattle.orders.specs.declared.history.Timed.{Timed}
use Rattle.orders.specs.Orders.{EachOnce, IsOf, KeepsTime, Precedes, call_of}
use Rattle.orders.proofs.Lists.{below, get_within}

-- the first items keep time, and this is the last of their beginnings
pub record IsLatest (h : List Timed) (items : List Item) (at latest : ℕ) : Type 0 where
  pub bound : (j : ℕ) (a : Timed) → j < at → IsOf h items j a → a.begin ≤ latest
  pub some : (latest ≡ 0) ⊎ ((j : ℕ) × (a : Timed) × (j < at) × IsOf h items j a × (a.begin ≡ latest))
  pub kept : (j k : ℕ) (a b : Timed) → j < k → k < at → IsOf h items j a → IsOf h items k b → ¬ Precedes b a

pub none_yet : (h : List Timed) (items : List Item) → IsLatest h items 0 0
none_yet h items = record {
  bound = λ j a l o. absurd (omega (arith, l));
  some = inl refl;
  kept = λ j k a b l n o p q. absurd (omega (arith, n));
}

-- what an item is of
one_of : (h : List Timed) (items : List Item) (k : ℕ) (item : Item) (a : Timed) → slice_get items k ≡ Some item → IsOf h items k a
    → slice_get h (call_of item) ≡ Some a
one_of h items k item a is o =
    let both : Some item ≡ Some o.item = sym is ∙ o.at in
    let same : item ≡ o.item = cc in
    ap (λ (x : Item). slice_get h (call_of x)) same ∙ o.call

-- amiss item is of amiss call
pub never_none : (h : List Timed) (items : List Item) (at : ℕ) (item : Item) → EachOnce (length h) items → slice_get items at ≡ Some item
    → slice_get h (call_of item) ≡ None → ⊥
never_none h items at item e is none = go h (call_of item) (e.known at item is) none
  where
    go : (xs : List Timed) (i : ℕ) → i < length xs → slice_get xs i ≡ None → ⊥
    go [] i l n = absurd (omega (arith, l))
    go (x ∷ xs) zero l n = absurd cc
    go (x ∷ xs) (suc i) l n = go xs i (omega (arith, l)) n

-- an item of a call that didn't end before the last of the beginnings
pub goes_on : (h : List Timed) (items : List Item) (at latest : ℕ) (item : Item) (c : Timed) → slice_get items at ≡ Some item
    → slice_get h (call_of item) ≡ Some c → latest ≤ c.end → IsLatest h items at latest → IsLatest h items (at + 1) (max latest c.begin)
goes_on h items at latest item c is call late m = record {
  bound = λ j a l o. bound j a (below j at l) o;
  some = some m.some;
  kept = λ j k a b l n o p. kept j k a b l (below k at n) o p;
}
  where
    same_call : (k : ℕ) (a : Timed) → k ≡ at → IsOf h items k a → a ≡ c
    same_call k a same o =
        let at' = one_of h items k item a (ap (slice_get items) same ∙ is) o in
        let both : Some a ≡ Some c = sym at' ∙ call in cc

    bound : (j : ℕ) (a : Timed) → (j < at) ⊎ (j ≡ at) → IsOf h items j a → a.begin ≤ max latest c.begin
    bound j a (inl l) o = let low = m.bound j a l o in omega (arith, low)
    bound j a (inr same) o = subst (λ (x : Timed). x.begin ≤ max latest c.begin) (sym (same_call j a same o)) (omega arith)

    which : (latest < c.begin) ⊎ (c.begin ≤ latest)
    which = grind arith

    some : (latest ≡ 0) ⊎ ((j : ℕ) × (a : Timed) × (j < at) × IsOf h items j a × (a.begin ≡ latest))
        → (max latest c.begin ≡ 0) ⊎ ((j : ℕ) × (a : Timed) × (j < at + 1) × IsOf h items j a × (a.begin ≡ max latest c.begin))
    some old = by which old
      where
        by : (latest < c.begin) ⊎ (c.begin ≤ latest) → (latest ≡ 0) ⊎ ((j : ℕ) × (a : Timed) × (j < at) × IsOf h items j a × (a.begin ≡ latest))
            → (max latest c.begin ≡ 0) ⊎ ((j : ℕ) × (a : Timed) × (j < at + 1) × IsOf h items j a × (a.begin ≡ max latest c.begin))
        by (inl less) old = inr (at, c, omega arith, record { item = item; at = is; call = call }, omega (arith, less))
        by (inr more) (inl e) = inl (omega (arith, more, e))
        by (inr more) (inr o) =
            let l = o.2 in let e = o.4 in inr (o.0, o.1, omega (arith, l), o.3, omega (arith, e, more))

    kept : (j k : ℕ) (a b : Timed) → j < k → (k < at) ⊎ (k ≡ at) → IsOf h items j a → IsOf h items k b → ¬ Precedes b a
    kept j k a b l (inl n) o p q = m.kept j k a b l n o p q
    kept j k a b l (inr same) o p q =
        let low = m.bound j a (omega (arith, l, same)) o in
        let ends : b.end ≡ c.end = ap (λ (x : Timed). x.end) (same_call k b same p) in
        absurd (omega (arith, low, ends, late, q))

-- one that did
pub too_late : (h : List Timed) (items : List Item) (at latest : ℕ) (item : Item) (c : Timed) → slice_get items at ≡ Some item
    → slice_get h (call_of item) ≡ Some c → c.end < latest → IsLatest h items at latest → ¬ KeepsTime h items
too_late h items at latest item c is call early m keeps = by m.some
  where
    by : (latest ≡ 0) ⊎ ((j : ℕ) × (a : Timed) × (j < at) × IsOf h items j a × (a.begin ≡ latest)) → ⊥
    by (inl e) = absurd (omega (arith, e, early))
    by (inr o) =
        let begins = o.4 in
        keeps o.0 at o.1 c o.2 o.3 (record { item = item; at = is; call = call }) (omega (arith, early, begins))

pub keeps : (h : List Timed) (items : List Item) (at latest : ℕ) → length items ≤ at → IsLatest h items at latest → KeepsTime h items
keeps h items at latest end m j k a b l o p =
    let within = get_within items k p.item p.at in m.kept j k a b l (omega (arith, within, end)) o p
