-- Each call once
use Rattle.std.proofs.Common.{◌≡◌, ℕ, zero, suc, ◌+◌, ◌<◌, ◌≤◌, ◌⊎◌, inl, inr, Bool, true, false, List, Some, ap, arith, get_or, length, nat_lt, not}
use Rattle.std.proofs.Common.{refl, set, slice_get, subst, sym, ◌∙◌}
use Rattle.std.specs.Prelude.{◌&&◌, ◌==◌, replicate}
use Rattle.std.proofs.lemmas.Bool.Decides.{nat_tests}
use Rattle.std.proofs.lemmas.List.{get_or-set_other, get_or-set_same, length-set}
use Rattle.vm_base.proofs.Functions.{eq_false, eq_true}
use Rattle.orders.specs.declared.history.Item.{Item}
use Rattle.orders.specs.declared.history.Item.TheVariants.{Reply, Copy}
use Rattle.orders.specs.Once.{AllMarked, IsMarked, marks_after, may_follow}
use Rattle.orders.specs.Orders.{EachOnce, call_of}
use Rattle.orders.proofs.Lists.{below, get_within}

-- an item that may follow is of a call that is not marked
may_parts : (marks : List Bool) (item : Item) → may_follow marks item ≡ true
    → (call_of item < length marks) × (get_or marks (call_of item) false ≡ false)
may_parts marks item h = go (nat_lt (call_of item) (length marks)) refl (get_or marks (call_of item) false) refl h
  where
    go : (a : Bool) → nat_lt (call_of item) (length marks) ≡ a → (b : Bool) → get_or marks (call_of item) false ≡ b → (a && not b) ≡ true
        → (call_of item < length marks) × (get_or marks (call_of item) false ≡ false)
    go false ia b ib h = absurd cc
    go true ia true ib h = absurd cc
    go true ia false ib h = (grind (arith, nat_tests, ia), ib)

-- one that may not, of a call that is none, or is marked
not_parts : (marks : List Bool) (item : Item) → may_follow marks item ≡ false → call_of item < length marks
    → get_or marks (call_of item) false ≡ true
not_parts marks item h l = go (nat_lt (call_of item) (length marks)) refl (get_or marks (call_of item) false) refl h
  where
    go : (a : Bool) → nat_lt (call_of item) (length marks) ≡ a → (b : Bool) → get_or marks (call_of item) false ≡ b → (a && not b) ≡ false
        → get_or marks (call_of item) false ≡ true
    go false ia b ib h = let so : nat_lt (call_of item) (length marks) ≡ true = grind (arith, nat_tests, l) in absurd cc
    go true ia true ib h = ib
    go true ia false ib h = absurd cc

-- nothing is marked at first
pub none_marked : (count : ℕ) (items : List Item) (marks : List Bool) → length marks ≡ count → ((i : ℕ) → get_or marks i false ≡ false)
    → IsMarked count items 0 marks
none_marked count items marks places none = record {
  places = places;
  known = λ k item l e. absurd (omega (arith, l));
  marked = λ i h. let amiss = none i in absurd cc;
  replied = λ i k l e. absurd (omega (arith, l));
  once = λ i j k l m e f. absurd (omega (arith, l));
  copies = λ i j k l m e f. absurd (omega (arith, l));
}

-- a reply, and its call is marked
reply_step : (count : ℕ) (items : List Item) (at i : ℕ) (marks : List Bool) → slice_get items at ≡ Some (Reply i) → i < length marks
    → get_or marks i false ≡ false → IsMarked count items at marks → IsMarked count items (at + 1) (set marks i true)
reply_step count items at i marks is within unmarked m = record {
  places = length-set marks i true ∙ m.places;
  known = λ k item l e. known k item (below k at l) e;
  marked = λ j h. marked j (j == i) refl h;
  replied = λ j k l e. replied j k (below k at l) e;
  once = λ x j k l n e f. once x j k (below j at l) (below k at n) e f;
  copies = λ x j k l n e f. copies x j k (below j at l) (below k at n) e f;
}
  where
    here : (k : ℕ) (item : Item) → k ≡ at → slice_get items k ≡ Some item → item ≡ Reply i
    here k item same e = let both : Some item ≡ Some (Reply i) = sym e ∙ (ap (slice_get items) same ∙ is) in cc

    known : (k : ℕ) (item : Item) → (k < at) ⊎ (k ≡ at) → slice_get items k ≡ Some item → call_of item < count
    known k item (inl l) e = m.known k item l e
    known k item (inr same) e =
        let places = m.places in
        let small : i < count = omega (arith, within, places) in
        subst (λ (x : Item). call_of x < count) (sym (here k item same e)) small

    marked : (j : ℕ) (b : Bool) → (j == i) ≡ b → get_or (set marks i true) j false ≡ true → (k : ℕ) × (k < at + 1) × (slice_get items k ≡ Some (Reply j))
    marked j true same h = (at, omega arith, is ∙ ap (λ (x : ℕ). Some (Reply x)) (sym (eq_true j i same)))
    marked j false other h =
        let old = m.marked j (sym (get_or-set_other marks i j true false (eq_false j i other)) ∙ h) in
        let l = old.1 in
        (old.0, omega (arith, l), old.2)

    stays : (j : ℕ) (b : Bool) → (j == i) ≡ b → get_or marks j false ≡ true → get_or (set marks i true) j false ≡ true
    stays j true same h =
        subst (λ (x : ℕ). get_or (set marks i true) x false ≡ true) (sym (eq_true j i same)) (get_or-set_same marks i true false within)
    stays j false other h = get_or-set_other marks i j true false (eq_false j i other) ∙ h

    replied : (j k : ℕ) → (k < at) ⊎ (k ≡ at) → slice_get items k ≡ Some (Reply j) → get_or (set marks i true) j false ≡ true
    replied j k (inl l) e = stays j (j == i) refl (m.replied j k l e)
    replied j k (inr same) e =
        let which : Reply j ≡ Reply i = here k (Reply j) same e in
        let number : j ≡ i = cc in
        subst (λ (x : ℕ). get_or (set marks i true) x false ≡ true) (sym number) (get_or-set_same marks i true false within)

    -- its reply doesn't stand before
    before : (x k : ℕ) → k < at → slice_get items k ≡ Some (Reply x) → Reply x ≡ Reply i → ⊥
    before x k l e which =
        let number : x ≡ i = cc in
        let so : get_or marks i false ≡ true = subst (λ (y : ℕ). get_or marks y false ≡ true) number (m.replied x k l e) in absurd cc

    once : (x j k : ℕ) → (j < at) ⊎ (j ≡ at) → (k < at) ⊎ (k ≡ at) → slice_get items j ≡ Some (Reply x) → slice_get items k ≡ Some (Reply x) → j ≡ k
    once x j k (inl l) (inl n) e f = m.once x j k l n e f
    once x j k (inl l) (inr same) e f = absurd (before x j l e (here k (Reply x) same f))
    once x j k (inr same) (inl n) e f = absurd (before x k n f (here j (Reply x) same e))
    once x j k (inr s) (inr t) e f = s ∙ sym t

    copies : (x j k : ℕ) → (j < at) ⊎ (j ≡ at) → (k < at) ⊎ (k ≡ at) → slice_get items j ≡ Some (Copy x) → slice_get items k ≡ Some (Reply x) → j < k
    copies x j k (inl l) (inl n) e f = m.copies x j k l n e f
    copies x j k (inl l) (inr same) e f = omega (arith, l, same)
    copies x j k (inr same) n e f = let which = here j (Copy x) same e in absurd cc

-- a copy
copy_step : (count : ℕ) (items : List Item) (at i : ℕ) (marks : List Bool) → slice_get items at ≡ Some (Copy i) → i < length marks
    → get_or marks i false ≡ false → IsMarked count items at marks → IsMarked count items (at + 1) marks
copy_step count items at i marks is within unmarked m = record {
  places = m.places;
  known = λ k item l e. known k item (below k at l) e;
  marked = λ j h. let old = m.marked j h in let l = old.1 in (old.0, omega (arith, l), old.2);
  replied = λ j k l e. replied j k (below k at l) e;
  once = λ x j k l n e f. once x j k (below j at l) (below k at n) e f;
  copies = λ x j k l n e f. copies x j k (below j at l) (below k at n) e f;
}
  where
    here : (k : ℕ) (item : Item) → k ≡ at → slice_get items k ≡ Some item → item ≡ Copy i
    here k item same e = let both : Some item ≡ Some (Copy i) = sym e ∙ (ap (slice_get items) same ∙ is) in cc

    known : (k : ℕ) (item : Item) → (k < at) ⊎ (k ≡ at) → slice_get items k ≡ Some item → call_of item < count
    known k item (inl l) e = m.known k item l e
    known k item (inr same) e =
        let places = m.places in
        let small : i < count = omega (arith, within, places) in
        subst (λ (x : Item). call_of x < count) (sym (here k item same e)) small

    replied : (j k : ℕ) → (k < at) ⊎ (k ≡ at) → slice_get items k ≡ Some (Reply j) → get_or marks j false ≡ true
    replied j k (inl l) e = m.replied j k l e
    replied j k (inr same) e = let which = here k (Reply j) same e in absurd cc

    once : (x j k : ℕ) → (j < at) ⊎ (j ≡ at) → (k < at) ⊎ (k ≡ at) → slice_get items j ≡ Some (Reply x) → slice_get items k ≡ Some (Reply x) → j ≡ k
    once x j k (inl l) (inl n) e f = m.once x j k l n e f
    once x j k (inl l) (inr same) e f = let which = here k (Reply x) same f in absurd cc
    once x j k (inr same) n e f = let which = here j (Reply x) same e in absurd cc

    copies : (x j k : ℕ) → (j < at) ⊎ (j ≡ at) → (k < at) ⊎ (k ≡ at) → slice_get items j ≡ Some (Copy x) → slice_get items k ≡ Some (Reply x) → j < k
    copies x j k (inl l) (inl n) e f = m.copies x j k l n e f
    copies x j k s (inr same) e f = let which = here k (Reply x) same f in absurd cc
    copies x j k (inr same) (inl n) e f =
        let which : Copy x ≡ Copy i = here j (Copy x) same e in
        let number : x ≡ i = cc in
        let so : get_or marks i false ≡ true = subst (λ (y : ℕ). get_or marks y false ≡ true) number (m.replied x k n f) in absurd cc

pub marks_step : (count : ℕ) (items : List Item) (at : ℕ) (item : Item) (marks : List Bool) → slice_get items at ≡ Some item
    → may_follow marks item ≡ true → IsMarked count items at marks → IsMarked count items (at + 1) (marks_after marks item)
marks_step count items at (Reply i) marks is may m =
    let parts = may_parts marks (Reply i) may in reply_step count items at i marks is parts.0 parts.1 m
marks_step count items at (Copy i) marks is may m =
    let parts = may_parts marks (Copy i) may in copy_step count items at i marks is parts.0 parts.1 m

-- where an item may not follow they are amiss such items
pub mark_none : (count : ℕ) (items : List Item) (at : ℕ) (item : Item) (marks : List Bool) → slice_get items at ≡ Some item
    → may_follow marks item ≡ false → IsMarked count items at marks → ¬ EachOnce count items
mark_none count items at item marks is may m e =
    let places = m.places in
    let few = e.known at item is in
    let old = m.marked (call_of item) (not_parts marks item may (omega (arith, few, places))) in
    by item is old
  where
    by : (x : Item) → slice_get items at ≡ Some x → (k : ℕ) × (k < at) × (slice_get items k ≡ Some (Reply (call_of x))) → ⊥
    by (Reply i) here old = let same = e.once i old.0 at old.2 here in let l = old.1 in absurd (omega (arith, same, l))
    by (Copy i) here old = let less = e.copies i at old.0 here old.2 in let l = old.1 in absurd (omega (arith, less, l))

-- at the end
pub marks_all : (count : ℕ) (items : List Item) (at : ℕ) (marks : List Bool) → length items ≤ at → IsMarked count items at marks → AllMarked marks
    → EachOnce count items
marks_all count items at marks end m all = record {
  known = λ k item e. m.known k item (inside k item e) e;
  some = λ i l. let places = m.places in let old = m.marked i (all i (omega (arith, l, places))) in (old.0, old.2);
  once = λ i j k e f. m.once i j k (inside j (Reply i) e) (inside k (Reply i) f) e f;
  copies = λ i j k e f. m.copies i j k (inside j (Copy i) e) (inside k (Reply i) f) e f;
}
  where
    inside : (k : ℕ) (item : Item) → slice_get items k ≡ Some item → k < at
    inside k item e = let l = get_within items k item e in omega (arith, l, end)

pub all_marks : (count : ℕ) (items : List Item) (at : ℕ) (marks : List Bool) → length items ≤ at → IsMarked count items at marks → EachOnce count items
    → AllMarked marks
all_marks count items at marks end m e i l =
    let places = m.places in
    let found = e.some i (omega (arith, l, places)) in
    let within = get_within items found.0 (Reply i) found.1 in
    m.replied i found.0 (omega (arith, within, end)) found.1

pub unmarked : (n i : ℕ) → get_or (replicate n false) i false ≡ false
unmarked zero i = refl
unmarked (suc n) zero = refl
unmarked (suc n) (suc i) = unmarked n i
