-- The calls that are gathered so far
use Rattle.std.proofs.Common.{◌≡◌, ◌∙◌, ℕ, zero, suc, ◌+◌, ◌<◌, ◌≤◌, ◌⊎◌, inl, inr, true, List, [], ◌∷◌, ◌++◌, Some, ap, arith}
use Rattle.std.proofs.Common.{get_or, length, slice_get, subst, sym}
use Rattle.vm_base.specs.declared.page.PageRange.{PageRange}
use Rattle.orders.specs.declared.history.Timed.{Timed}
use Rattle.orders.proofs.Lists.{below, get_here, get_within}
use Rattle.no_order.proofs.Fronts.{get_front, get_seam}
use Rattle.cores.specs.declared.kept.Kept.{Kept}
use Rattle.cores.specs.Cores.{AreAll, IsAmong, IsKept, IsKeptCall, Rises, is_left_out}
use Rattle.cores.proofs.Choosing.{rises_push}

pub record AreSoFar (h : List Timed) (p : PageRange) (number : ℕ) (first : Timed) (cut : ℕ) (ks : List Kept) (at : ℕ) : Type 0 where
  pub kept : (n : ℕ) (k : Kept) → slice_get ks n ≡ Some k → IsKept h p number first cut k
  pub below_at : (n : ℕ) (k : Kept) → slice_get ks n ≡ Some k → k.number < at
  pub rises : Rises 0 ks
  pub all : (i : ℕ) (c : Timed) → i < at → slice_get h i ≡ Some c → (i ≡ number) ⊎ (is_left_out p first cut c ≡ true) ⊎ IsAmong i ks

none_yet : (h : List Timed) (p : PageRange) (number : ℕ) (first : Timed) (cut : ℕ) → AreSoFar h p number first cut [] 0
none_yet h p number first cut = record {
  kept = λ n k e. absurd cc;
  below_at = λ n k e. absurd cc;
  rises = tt;
  all = λ i c l e. absurd (omega (arith, l));
}

pub none_so_far : (h : List Timed) (p : PageRange) (number : ℕ) (first : Timed) (cut : ℕ) (ks : List Kept) → ks ≡ [] → AreSoFar h p number first cut ks 0
none_so_far h p number first cut ks e = subst (λ (xs : List Kept). AreSoFar h p number first cut xs 0) (sym e) (none_yet h p number first cut)

here_is : (h : List Timed) (at i : ℕ) (d c : Timed) → at < length h → i ≡ at → d ≡ get_or h at d → slice_get h i ≡ Some c → c ≡ d
here_is h at i d c l same is e =
    let both : Some c ≡ Some (get_or h at d) = sym e ∙ (ap (slice_get h) same ∙ get_here h at d l) in
    let that : c ≡ get_or h at d = cc in that ∙ sym is

-- a call that is left out
pub one_out : (h : List Timed) (p : PageRange) (number : ℕ) (first : Timed) (cut : ℕ) (ks : List Kept) (at : ℕ) (d : Timed) → at < length h
    → d ≡ get_or h at d → (at ≡ number) ⊎ (is_left_out p first cut d ≡ true) → AreSoFar h p number first cut ks at
    → AreSoFar h p number first cut ks (at + 1)
one_out h p number first cut ks at d l is out s = record {
  kept = s.kept;
  below_at = λ n k e. let less = s.below_at n k e in omega (arith, less);
  rises = s.rises;
  all = all;
}
  where
    told : (i : ℕ) (c : Timed) → i ≡ at → c ≡ d → (at ≡ number) ⊎ (is_left_out p first cut d ≡ true)
        → (i ≡ number) ⊎ (is_left_out p first cut c ≡ true) ⊎ IsAmong i ks
    told i c same that (inl e) = inl (same ∙ e)
    told i c same that (inr e) = inr (inl (subst (λ (x : Timed). is_left_out p first cut x ≡ true) (sym that) e))

    by : (i : ℕ) (c : Timed) → slice_get h i ≡ Some c → (i < at) ⊎ (i ≡ at) → (i ≡ number) ⊎ (is_left_out p first cut c ≡ true) ⊎ IsAmong i ks
    by i c e (inl less) = s.all i c less e
    by i c e (inr same) = told i c same (here_is h at i d c l same is e) out

    all : (i : ℕ) (c : Timed) → i < at + 1 → slice_get h i ≡ Some c → (i ≡ number) ⊎ (is_left_out p first cut c ≡ true) ⊎ IsAmong i ks
    all i c less e = by i c e (below i at less)

one_longer : (ks : List Kept) (k x : Kept) (n : ℕ) → slice_get (ks ++ k ∷ []) n ≡ Some x → (slice_get ks n ≡ Some x) ⊎ (x ≡ k)
one_longer [] k x n e = last n e
  where
    last : (m : ℕ) → slice_get (k ∷ []) m ≡ Some x → (slice_get [] m ≡ Some x) ⊎ (x ≡ k)
    last zero f = let both : Some k ≡ Some x = f in let same : k ≡ x = cc in inr (sym same)
    last (suc m) f = absurd cc
one_longer (d ∷ ds) k x zero e = inl e
one_longer (d ∷ ds) k x (suc n) e = one_longer ds k x n e

-- one that is kept
pub one_in : (h : List Timed) (p : PageRange) (number : ℕ) (first : Timed) (cut : ℕ) (ks ls : List Kept) (at : ℕ) (d : Timed) (k : Kept) → at < length h
    → d ≡ get_or h at d → ls ≡ ks ++ k ∷ [] → IsKeptCall p number first cut at d k → AreSoFar h p number first cut ks at
    → AreSoFar h p number first cut ls (at + 1)
one_in h p number first cut ks ls at d k l is e c s =
    subst (λ (xs : List Kept). AreSoFar h p number first cut xs (at + 1)) (sym e) (record {
      kept = λ n x f. kept n x (one_longer ks k x n f);
      below_at = λ n x f. under n x (one_longer ks k x n f);
      rises = rises_push 0 at ks k (omega arith) c.number_of s.below_at s.rises;
      all = all;
    })
  where
    kept : (n : ℕ) (x : Kept) → (slice_get ks n ≡ Some x) ⊎ (x ≡ k) → IsKept h p number first cut x
    kept n x (inl f) = s.kept n x f
    kept n x (inr same) = subst (λ (y : Kept). IsKept h p number first cut y) (sym same) (record {
      whole = d;
      at = ap (slice_get h) c.number_of ∙ (get_here h at d l ∙ ap Some (sym is));
      begins = c.begins;
      ends = c.ends;
      part = c.part;
      other = λ f. c.other (sym c.number_of ∙ f);
      sure = c.sure;
    })

    under : (n : ℕ) (x : Kept) → (slice_get ks n ≡ Some x) ⊎ (x ≡ k) → x.number < at + 1
    under n x (inl f) = let less = s.below_at n x f in omega (arith, less)
    under n x (inr same) =
        let number_is : x.number ≡ at = ap (λ (y : Kept). y.number) same ∙ c.number_of in omega (arith, number_is)

    longer : (i : ℕ) (b : Timed) → (i ≡ number) ⊎ (is_left_out p first cut b ≡ true) ⊎ IsAmong i ks
        → (i ≡ number) ⊎ (is_left_out p first cut b ≡ true) ⊎ IsAmong i (ks ++ k ∷ [])
    longer i b (inl f) = inl f
    longer i b (inr (inl f)) = inr (inl f)
    longer i b (inr (inr a)) = inr (inr (a.0, a.1, get_front ks (k ∷ []) a.0 a.1 a.2, a.3))

    by : (i : ℕ) (b : Timed) → slice_get h i ≡ Some b → (i < at) ⊎ (i ≡ at)
        → (i ≡ number) ⊎ (is_left_out p first cut b ≡ true) ⊎ IsAmong i (ks ++ k ∷ [])
    by i b f (inl less) = longer i b (s.all i b less f)
    by i b f (inr same) = inr (inr (length ks, k, get_seam ks [] k, c.number_of ∙ sym same))

    all : (i : ℕ) (b : Timed) → i < at + 1 → slice_get h i ≡ Some b → (i ≡ number) ⊎ (is_left_out p first cut b ≡ true) ⊎ IsAmong i (ks ++ k ∷ [])
    all i b less f = by i b f (below i at less)

pub all_gathered : (h : List Timed) (p : PageRange) (number : ℕ) (first : Timed) (cut : ℕ) (ks : List Kept) (at : ℕ) → length h ≤ at
    → AreSoFar h p number first cut ks at → AreAll h p number first cut ks
all_gathered h p number first cut ks at l s = record {
  kept = s.kept;
  rises = s.rises;
  all = λ i c e. let less = get_within h i c e in s.all i c (omega (arith, l, less)) e;
}
