-- Fronts of lists, and of orders
use Rattle.std.proofs.Common.{◌≡◌, ◌∙◌, Bool, ℕ, zero, suc, ◌+◌, ◌<◌, ◌≤◌, ◌⊎◌, inl, inr, List, [], ◌∷◌, ◌++◌, Some, get_or, append-nil, append_assoc}
use Rattle.std.proofs.Common.{ap, arith, length, refl, slice_get, subst, sym}
use Rattle.vm_base.specs.Places.{PlaceRule}
use Rattle.vm_base.specs.Plain.{Plain}
use Rattle.audit.specs.Placing.{rule_of}
use Rattle.orders.specs.declared.history.Item.{Item}
use Rattle.orders.specs.declared.history.Timed.{Timed}
use Rattle.orders.specs.Orders.{EachOnce, HasOrder, KeepsTime, LeadAll, call_of}
use Rattle.orders.proofs.Lists.{below, get_here, get_within}
use Rattle.no_order.specs.Answers.{IsAnswer, IsAnswerBehind}
use Rattle.no_order.specs.Beginnings.{NoneBegins}
use Rattle.no_order.specs.declared.searching.Answer.{Answer}
use Rattle.no_order.specs.declared.searching.Answer.TheVariants.{NoOrder, Order, Limit}

-- ---- places

pub get_front : {A : Type 0} (xs ys : List A) (k : ℕ) (x : A) → slice_get xs k ≡ Some x → slice_get (xs ++ ys) k ≡ Some x
get_front [] ys k x e = absurd cc
get_front (d ∷ ds) ys zero x e = e
get_front (d ∷ ds) ys (suc k) x e = get_front ds ys k x e

pub get_back : {A : Type 0} (xs ys : List A) (k : ℕ) (x : A) → k < length xs → slice_get (xs ++ ys) k ≡ Some x → slice_get xs k ≡ Some x
get_back [] ys k x l e = absurd (omega (arith, l))
get_back (d ∷ ds) ys zero x l e = e
get_back (d ∷ ds) ys (suc k) x l e = get_back ds ys k x (omega (arith, l)) e

pub get_seam : {A : Type 0} (xs ys : List A) (x : A) → slice_get (xs ++ x ∷ ys) (length xs) ≡ Some x
get_seam [] ys x = refl
get_seam (d ∷ ds) ys x = get_seam ds ys x

pub regroup : {A : Type 0} (xs ys : List A) (x : A) → (xs ++ x ∷ []) ++ ys ≡ xs ++ x ∷ ys
regroup xs ys x = append_assoc xs (x ∷ []) ys

-- ---- the first so many

-- none of them has P
abbrev pub NoneOf : {A : Type 0} → (ℕ → A → Type 0) → List A → ℕ → Type 0
NoneOf {A} P xs at = (k : ℕ) (x : A) → k < at → slice_get xs k ≡ Some x → P k x → ⊥

pub none_more : {A : Type 0} (P : ℕ → A → Type 0) (xs : List A) (at : ℕ) (d : A) → at < length xs → (P at (get_or xs at d) → ⊥)
    → NoneOf P xs at → NoneOf P xs (at + 1)
none_more {A} P xs at d l not_here none k x n e p = by (below k at n)
  where
    by : (k < at) ⊎ (k ≡ at) → ⊥
    by (inl less) = none k x less e p
    by (inr same) =
        let here : Some x ≡ Some (get_or xs at d) = sym e ∙ (ap (slice_get xs) same ∙ get_here xs at d l) in
        let that : x ≡ get_or xs at d = cc in
        not_here (subst (λ (y : A). P at y) that (subst (λ (j : ℕ). P j x) same p))

pub none_of_all : {A : Type 0} (P : ℕ → A → Type 0) (xs : List A) (at : ℕ) → length xs ≤ at → NoneOf P xs at
    → (k : ℕ) (x : A) → slice_get xs k ≡ Some x → P k x → ⊥
none_of_all P xs at end none k x e p =
    let within = get_within xs k x e in none k x (omega (arith, within, end)) e p

-- ---- where items lead

pub front_leads : (rule : PlaceRule) (h : List Timed) (t u : Plain) (xs ys : List Item) → LeadAll rule h t (xs ++ ys) u
    → (m : Plain) × LeadAll rule h t xs m × LeadAll rule h m ys u
front_leads rule h t u [] ys a = (t, refl, a)
front_leads rule h t u (d ∷ ds) ys a =
    let f = front_leads rule h a.0 u ds ys a.2 in (f.0, (a.0, a.1, f.1), f.2)

-- the same by another name of the rule and of the map
pub led_so : (any rule : Bool) (t s u : Plain) (h : List Timed) (items : List Item) → rule ≡ any → s ≡ t → LeadAll (rule_of rule) h s items u
    → LeadAll (rule_of any) h t items u
led_so any rule t s u h items e f a =
    subst (λ (p : Plain). LeadAll (rule_of any) h p items u) f (subst (λ (b : Bool). LeadAll (rule_of b) h s items u) e a)

-- ---- beginnings

-- what leads nowhere begins no order
pub none_leads : (rule : PlaceRule) (t : Plain) (h : List Timed) (items : List Item) → ((u : Plain) → ¬ LeadAll rule h t items u)
    → NoneBegins rule t h items
none_leads rule t h items none all o b =
    let f = front_leads rule h t o.last items b.0 (subst (λ (xs : List Item). LeadAll rule h t xs o.last) (sym b.1) o.lead) in
    none f.0 f.1

-- what begins no order with any item behind it, and is none itself
pub none_behind : (rule : PlaceRule) (t : Plain) (h : List Timed) (items : List Item)
    → (EachOnce (length h) items → ¬ KeepsTime h items)
    → ((item : Item) → call_of item < length h → NoneBegins rule t h (items ++ item ∷ [])) → NoneBegins rule t h items
none_behind rule t h items part none all o b = go b.0 b.1
  where
    go : (rest : List Item) → items ++ rest ≡ all → ⊥
    go [] e =
        let same : all ≡ items = sym e ∙ append-nil items in
        part (subst (λ (xs : List Item). EachOnce (length h) xs) same o.each_once) (subst (λ (xs : List Item). KeepsTime h xs) same o.keeps_time)
    go (x ∷ rest) e =
        let at : slice_get all (length items) ≡ Some x = subst (λ (xs : List Item). slice_get xs (length items) ≡ Some x) e (get_seam items rest x) in
        none x (o.each_once.known (length items) x at) all o (rest, regroup items rest x ∙ e)

-- every order begins with nothing
pub none_at_all : (rule : PlaceRule) (t : Plain) (h : List Timed) (items : List Item) → items ≡ [] → NoneBegins rule t h items → ¬ HasOrder rule t h
none_at_all rule t h items e none o =
    none o.items o.is_order (o.items, ap (λ (xs : List Item). xs ++ o.items) e)

-- what is told of all orders that begin with nothing
pub of_all : (rule : PlaceRule) (t : Plain) (h : List Timed) (items : List Item) (answer : Answer) → items ≡ []
    → IsAnswerBehind rule t h items answer → IsAnswer rule t h answer
of_all rule t h items NoOrder e none = none_at_all rule t h items e none
of_all rule t h items Order e o = o
of_all rule t h items Limit e o = tt
