-- The calls of a history without the accesses that may be late, one after another
use Rattle.std.proofs.Common.{◌≡◌, ◌∙◌, ◌⊎◌, inl, inr, ℕ, ◌+◌, ◌<◌, ◌≤◌, Bool, true, false, List, [], ◌∷◌, ◌++◌, Option, None, Some, IfSome, ap}
use Rattle.std.proofs.Common.{arith, get_or, length, refl, slice_get, subst, sym}
use Rattle.std.proofs.lemmas.List.{length-append}
use Rattle.orders.specs.declared.history.Timed.{Timed}
use Rattle.orders.specs.Pages.{lost}
use Rattle.orders.proofs.Lists.{below, get_here, get_within}
use Rattle.no_order.proofs.Fronts.{get_front, get_seam}
use Rattle.loose_orders.specs.Loose.{page_accessed}
use Rattle.loose_orders.specs.Timely.{IsAccessOfPage, LateAreLeftOut, StaysAsTimely, is_beside, out_of, stores}

pub not_true : (b : Bool) → (b ≡ true → ⊥) → b ≡ false
not_true true h = absurd (h refl)
not_true false h = refl

some_same : {A : Type 0} (a b : A) → Some a ≡ Some b → a ≡ b
some_same a b e = cc

-- ---- one call

no_access : (h : List Timed) (c : Timed) (o : Option ℕ) → o ≡ page_accessed c.call.request → o ≡ None → StaysAsTimely h c c
no_access h c o is e = (refl, λ m. let wrong : None ≡ Some m.0 = sym e ∙ (is ∙ m.1) in absurd cc)

not_late : (h : List Timed) (c : Timed) (o : Option ℕ) (page : ℕ) → o ≡ page_accessed c.call.request → o ≡ Some page
    → ((i : ℕ) (change : Timed) → slice_get h i ≡ Some change → is_beside c page change ≡ false) → StaysAsTimely h c c
not_late h c o page is e none = (
  refl,
  λ m.
      let same : page ≡ m.0 = some_same page m.0 (sym e ∙ (is ∙ m.1)) in
      let at = none m.2.0 m.2.1 m.2.2 in
      let wrong : true ≡ false = sym m.2.3 ∙ subst (λ (p : ℕ). is_beside c p m.2.1 ≡ false) same at in absurd cc,
)

pub stays_unaccessed : (h : List Timed) (c : Timed) (o : Option ℕ) (unstored : Bool) → o ≡ page_accessed c.call.request → o ≡ None
    → StaysAsTimely h c c ⊎ out_of unstored c c
stays_unaccessed h c o unstored is e = inl (no_access h c o is e)

pub stays_timely : (h : List Timed) (c : Timed) (o : Option ℕ) (page : ℕ) (unstored : Bool) → o ≡ page_accessed c.call.request → o ≡ Some page
    → ((i : ℕ) (change : Timed) → slice_get h i ≡ Some change → is_beside c page change ≡ false) → StaysAsTimely h c c ⊎ out_of unstored c c
stays_timely h c o page unstored is e none = inl (not_late h c o page is e none)

one_out : (unstored : Bool) (c d : Timed) (page : ℕ) → IsAccessOfPage c page → d ≡ lost c → (unstored ≡ true → stores c.call ≡ false) → out_of unstored c d
one_out true c d page e l s = ((l, (page, e)), s refl)
one_out false c d page e l s = (l, (page, e))

pub out_if : (h : List Timed) (c : Timed) (o : Option ℕ) (page : ℕ) (unstored : Bool) (r : Option Timed) → o ≡ page_accessed c.call.request → o ≡ Some page
    → IfSome r (λ d. d ≡ lost c) → IfSome r (λ d. unstored ≡ true → stores c.call ≡ false) → IfSome r (λ d. StaysAsTimely h c d ⊎ out_of unstored c d)
out_if h c o page unstored None is e l s = tt
out_if h c o page unstored (Some d) is e l s = inr (one_out unstored c d page (sym is ∙ e) l s)

-- ---- so many calls

pub record SoFar (out : Timed → Timed → Type 0) (h taken : List Timed) (at : ℕ) : Type 0 where
  pub count : length taken ≡ at
  pub within : at ≤ length h
  pub each : (i : ℕ) (c : Timed) → i < at → slice_get h i ≡ Some c → (d : Timed) × (slice_get taken i ≡ Some d) × (StaysAsTimely h c d ⊎ out c d)

pub none_so_far : (out : Timed → Timed → Type 0) (h taken : List Timed) → taken ≡ [] → SoFar out h taken 0
none_so_far out h taken e = record { count = ap length e; within = omega arith; each = λ i c l f. absurd (omega (arith, l)) }

pub one_more : (out : Timed → Timed → Type 0) (h now new : List Timed) (at : ℕ) (c d : Timed) → at < length h → c ≡ get_or h at c → new ≡ now ++ d ∷ []
    → StaysAsTimely h c d ⊎ out c d → SoFar out h now at → SoFar out h new (at + 1)
one_more out h now new at c d within is added left so = record {
  count = let same = so.count in omega (arith, simp length-append at (ap length added), same);
  within = omega (arith, within);
  each = λ i r l e. by i r (below i at l) e;
}
  where
    by : (i : ℕ) (r : Timed) → (i < at) ⊎ (i ≡ at) → slice_get h i ≡ Some r → (x : Timed) × (slice_get new i ≡ Some x) × (StaysAsTimely h r x ⊎ out r x)
    by i r (inl less) e =
        let x = so.each i r less e in
        (x.0, ap (λ (l : List Timed). slice_get l i) added ∙ get_front now (d ∷ []) i x.0 x.1, x.2)
    by i r (inr same) e =
        let both : Some r ≡ Some c = sym e ∙ (ap (slice_get h) same ∙ (get_here h at c within ∙ ap Some (sym is))) in
        let that : r ≡ c = some_same r c both in
        let place : i ≡ length now = same ∙ sym so.count in (
          d,
          ap (λ (l : List Timed). slice_get l i) added ∙ (ap (slice_get (now ++ d ∷ [])) place ∙ get_seam now [] d),
          subst (λ (x : Timed). StaysAsTimely h x d ⊎ out x d) (sym that) left,
        )

pub all_so_far : (out : Timed → Timed → Type 0) (h taken : List Timed) (at : ℕ) → length h ≤ at → SoFar out h taken at → LateAreLeftOut out h taken
all_so_far out h taken at past so = record {
  count = let same = so.count in let low = so.within in omega (arith, same, low, past);
  each = λ i c e. let less = get_within h i c e in so.each i c (omega (arith, less, past)) e;
}
