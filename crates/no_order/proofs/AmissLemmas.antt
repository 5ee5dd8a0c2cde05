-- Items that can't come next
use Rattle.std.proofs.Common.{◌≡◌, ◌∙◌, ℕ, zero, suc, ◌+◌, ◌-◌, ◌*◌, ◌<◌, ◌≤◌, ◌⊎◌, if◌then◌else◌, nat_lt, inl, inr, List, [], ◌∷◌, ◌++◌, Option}
use Rattle.std.proofs.Common.{None, Some, Bool, true, false, ap, arith, length, refl, slice_get, subst, sym}
use Rattle.std.proofs.lemmas.Bool.Decides.{nat_tests}
use Rattle.vm_base.specs.declared.requests.Request.{Request}
use Rattle.vm_base.specs.declared.requests.Request.TheVariants.{Load, Store, Fetch, Mmap, Munmap, Mprotect}
use Rattle.vm_base.specs.Places.{PlaceRule}
use Rattle.vm_base.specs.Plain.{Plain}
use Rattle.orders.specs.declared.history.Item.{Item}
use Rattle.orders.specs.declared.history.Item.TheVariants.{Reply, Copy}
use Rattle.orders.specs.declared.history.Timed.{Timed}
use Rattle.orders.specs.Orders.{CopiesFor, EachOnce, IsOrder, KeepsTime, Leads, call_of}
use Rattle.orders.proofs.Lists.{below, get_within}
use Rattle.no_order.specs.Beginnings.{Awaits, IsAmiss, IsAmissIf, IsAmissOf, NoneBegins, Stands, is_copy_of_none, is_store, item_at, number_of}
use Rattle.no_order.proofs.Fronts.{front_leads, get_back, get_front, get_seam, regroup}

-- ---- a call whose reply is there

none_twice : (count : ℕ) (items rest : List Item) (item : Item) → Stands items (Reply (call_of item)) → ¬ EachOnce count (items ++ item ∷ rest)
none_twice count items rest (Reply i) s o =
    let same = o.once i s.0 (length items) (get_front items (Reply i ∷ rest) s.0 (Reply i) s.1) (get_seam items rest (Reply i)) in
    let less = get_within items s.0 (Reply i) s.1 in
    absurd (omega (arith, same, less))
none_twice count items rest (Copy i) s o =
    let later = o.copies i (length items) s.0 (get_seam items rest (Copy i)) (get_front items (Copy i ∷ rest) s.0 (Reply i) s.1) in
    let less = get_within items s.0 (Reply i) s.1 in
    absurd (omega (arith, later, less))

-- ---- one that another must precede

none_before : (h : List Timed) (items rest : List Item) (item : Item) (c : Timed) → slice_get h (call_of item) ≡ Some c
    → Awaits h items (call_of item) c.begin → EachOnce (length h) (items ++ item ∷ rest) → ¬ KeepsTime h (items ++ item ∷ rest)
none_before h items rest item c is w o keeps =
    by (which found.0 (length items))
  where
    found : (k : ℕ) × (slice_get (items ++ item ∷ rest) k ≡ Some (Reply w.0))
    found = o.some w.0 (get_within h w.0 w.1 w.2)

    which : (k n : ℕ) → (k < n) ⊎ (k ≡ n) ⊎ (n < k)
    which k n = grind arith

    by : (found.0 < length items) ⊎ (found.0 ≡ length items) ⊎ (length items < found.0) → ⊥
    by (inl less) = w.3.missing (found.0, get_back items (item ∷ rest) found.0 (Reply w.0) less found.1)
    by (inr (inl same)) =
        let both : Some item ≡ Some (Reply w.0) =
        sym (get_seam items rest item) ∙ (ap (slice_get (items ++ item ∷ rest)) (sym same) ∙ found.1) in
        let that : item ≡ Reply w.0 = cc in
        w.3.another (sym (ap call_of that))
    by (inr (inr more)) =
        keeps (length items) found.0 c w.1 more (record { item = item; at = get_seam items rest item; call = is })
        (record { item = Reply w.0; at = found.1; call = w.2 }) w.3.ended

-- ---- a copy for no store

copies_none : (t u : Plain) (r : Request) → is_store r ≡ false → ¬ CopiesFor t r u
copies_none t u (Store addr byte) e h = absurd cc
copies_none t u (Load addr) e h = h
copies_none t u (Fetch addr) e h = h
copies_none t u (Mmap addr len prot flags file off) e h = h
copies_none t u (Munmap addr len) e h = h
copies_none t u (Mprotect addr len prot) e h = h

store_not : (i : ℕ) (r : Request) → is_copy_of_none (Copy i) r ≡ true → is_store r ≡ false
store_not i (Store addr byte) e = absurd cc
store_not i (Load addr) e = refl
store_not i (Fetch addr) e = refl
store_not i (Mmap addr len prot flags file off) e = refl
store_not i (Munmap addr len) e = refl
store_not i (Mprotect addr len prot) e = refl

none_copies : (rule : PlaceRule) (h : List Timed) (m n : Plain) (item : Item) (c : Timed) → slice_get h (call_of item) ≡ Some c
    → is_copy_of_none item c.call.request ≡ true → ¬ Leads rule h m item n
none_copies rule h m n (Reply i) c is e l = absurd cc
none_copies rule h m n (Copy i) c is e l =
    let both : Some l.0 ≡ Some c = sym l.1 ∙ is in
    let same : l.0 ≡ c = cc in
    copies_none m n c.call.request (store_not i c.call.request e) (subst (λ (d : Timed). CopiesFor m d.call.request n) same l.2)

-- ---- all three

never : (xs : List Timed) (i : ℕ) → i < length xs → slice_get xs i ≡ None → ⊥
never [] i l n = absurd (omega (arith, l))
never (x ∷ xs) zero l n = absurd cc
never (x ∷ xs) (suc i) l n = never xs i (omega (arith, l)) n

none_so : (rule : PlaceRule) (t : Plain) (h : List Timed) (items rest : List Item) (item : Item) → IsAmiss h items item
    → ¬ IsOrder rule t h (items ++ item ∷ rest)
none_so rule t h items rest item amiss o = go (slice_get h (call_of item)) refl amiss
  where
    of_call : (c : Timed) → slice_get h (call_of item) ≡ Some c → IsAmissOf h items item c → ⊥
    of_call c is (inl twice) = none_twice (length h) items rest item twice o.each_once
    of_call c is (inr (inl early)) = none_before h items rest item c is early o.each_once o.keeps_time
    of_call c is (inr (inr copy)) =
        let f = front_leads rule h t o.last items (item ∷ rest) o.lead in
        none_copies rule h f.0 f.2.0 item c is copy f.2.1

    go : (found : Option Timed) → slice_get h (call_of item) ≡ found → IsAmissIf h items item found → ⊥
    go None is a = never h (call_of item) (o.each_once.known (length items) item (get_seam items rest item)) is
    go (Some c) is a = of_call c is a

pub none_amiss : (rule : PlaceRule) (t : Plain) (h : List Timed) (items : List Item) (item : Item) → IsAmiss h items item
    → NoneBegins rule t h (items ++ item ∷ [])
none_amiss rule t h items item amiss all o b =
    none_so rule t h items b.0 item amiss (subst (λ (xs : List Item). IsOrder rule t h xs) (sym b.1 ∙ regroup items b.0 item) o)

-- ---- the test

pub amiss_unknown : (h : List Timed) (items : List Item) (item : Item) (call : ℕ) → call ≡ call_of item → None ≡ slice_get h call
    → IsAmiss h items item
amiss_unknown h items item call e is =
    subst (IsAmissIf h items item) (is ∙ ap (slice_get h) e) tt

pub amiss_known : (h : List Timed) (items : List Item) (item : Item) (call : ℕ) (c : Timed) → call ≡ call_of item → Some c ≡ slice_get h call
    → IsAmissOf h items item c → IsAmiss h items item
amiss_known h items item call c e is a = subst (IsAmissIf h items item) (is ∙ ap (slice_get h) e) a

pub known_amiss : (h : List Timed) (items : List Item) (item : Item) (call : ℕ) (c : Timed) → call ≡ call_of item → Some c ≡ slice_get h call
    → ¬ Stands items (Reply call) → ¬ Awaits h items call c.begin → IsAmiss h items item → is_copy_of_none item c.call.request ≡ true
known_amiss h items item call c e is twice early a =
    by (subst (IsAmissIf h items item) (sym (is ∙ ap (slice_get h) e)) a)
  where
    by : IsAmissOf h items item c → is_copy_of_none item c.call.request ≡ true
    by (inl s) = absurd (twice (subst (λ (n : ℕ). Stands items (Reply n)) (sym e) s))
    by (inr (inl w)) = absurd (early (subst (λ (n : ℕ). Awaits h items n c.begin) (sym e) w))
    by (inr (inr copy)) = copy

pub amiss_twice : (h : List Timed) (items : List Item) (item : Item) (call : ℕ) (c : Timed) → call ≡ call_of item → Some c ≡ slice_get h call
    → Stands items (Reply call) → IsAmiss h items item
amiss_twice h items item call c e is s =
    amiss_known h items item call c e is (inl (subst (λ (n : ℕ). Stands items (Reply n)) e s))

pub amiss_early : (h : List Timed) (items : List Item) (item : Item) (call : ℕ) (c : Timed) → call ≡ call_of item → Some c ≡ slice_get h call
    → Awaits h items call c.begin → IsAmiss h items item
amiss_early h items item call c e is w =
    amiss_known h items item call c e is (inr (inl (subst (λ (n : ℕ). Awaits h items n c.begin) e w)))

pub amiss_copy : (h : List Timed) (items : List Item) (item : Item) (call : ℕ) (c : Timed) → call ≡ call_of item → Some c ≡ slice_get h call
    → is_copy_of_none item c.call.request ≡ true → IsAmiss h items item
amiss_copy h items item call c e is copy = amiss_known h items item call c e is (inr (inr copy))

-- ---- items by their numbers

pub item_of_number : (count number : ℕ) (item : Item) → number_of count item ≡ number → call_of item < count → item ≡ item_at count number
item_of_number count number (Reply i) e l = by (nat_lt number count) refl
  where
    by : (b : Bool) → nat_lt number count ≡ b → Reply i ≡ (if b then Reply number else Copy (number - count))
    by true t = ap Reply e
    by false t = absurd (grind (arith, nat_tests))
item_of_number count number (Copy i) e l = by (nat_lt number count) refl
  where
    by : (b : Bool) → nat_lt number count ≡ b → Copy i ≡ (if b then Reply number else Copy (number - count))
    by true t = absurd (grind (arith, nat_tests))
    by false t = ap Copy (omega (arith, e))

-- the next one was tried
pub next_tried : (rule : PlaceRule) (t : Plain) (h : List Timed) (items : List Item) (number : ℕ) (tried : Item) → tried ≡ item_at (length h) number
    → NoneBegins rule t h (items ++ tried ∷ [])
    → ((item : Item) → call_of item < length h → number_of (length h) item < number → NoneBegins rule t h (items ++ item ∷ []))
    → (item : Item) → call_of item < length h → number_of (length h) item < number + 1 → NoneBegins rule t h (items ++ item ∷ [])
next_tried rule t h items number tried is none before item known l = by (below (number_of (length h) item) number l)
  where
    by : (number_of (length h) item < number) ⊎ (number_of (length h) item ≡ number) → NoneBegins rule t h (items ++ item ∷ [])
    by (inl less) = before item known less
    by (inr same) =
        let that : tried ≡ item = is ∙ sym (item_of_number (length h) number item same known) in
        subst (λ (x : Item). NoneBegins rule t h (items ++ x ∷ [])) that none

-- all were
pub numbers_below : (count number : ℕ) (item : Item) → 2 * count ≤ number → call_of item < count → number_of count item < number
numbers_below count number (Reply i) end l = omega (arith, end, l)
numbers_below count number (Copy i) end l = omega (arith, end, l)
