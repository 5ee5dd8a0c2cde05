-- The translation of a page stands at the first place of the TLB that has the page.
use Rattle.std.proofs.Common.{◌≡◌, ℕ, ◌<◌, ◌==◌, Bool, true, false, cond, List, [], ◌∷◌, length, None, Some, get_or, refl, arith, nat_lt}
use Rattle.std.proofs.Common.{not, ◌≤◌, zero, suc}
use Rattle.std.specs.List.{position, position_or_len}
use Rattle.std.proofs.lemmas.List.Sums.{prefix_len_passes}
use Rattle.std.proofs.lemmas.Bool.Decides.{nat_tests}
use Rattle.std.proofs.lemmas.List.Quantifiers.{position-Some}
use Rattle.mmu.specs.declared.tlb.TlbEntry.{TlbEntry}
use Rattle.mmu.specs.Tlb.{tlb_at}

pub first_found : (es : List TlbEntry) (p i : ℕ) (d : TlbEntry) → i < length es → ((get_or es i d).page == p) ≡ true → ((k : ℕ) → k < i
    → ((get_or es k d).page == p) ≡ false) → tlb_at es p ≡ Some (get_or es i d).translation
first_found [] p i d h e n = absurd (omega arith)
first_found (x ∷ xs) p zero d h e n = rw e refl
first_found (x ∷ xs) p (suc i) d h e n = rw (n 0 (omega arith)) (first_found xs p i d (omega arith) e (λ k lt. n (suc k) (omega arith)))

pub found : (es : List TlbEntry) (p i : ℕ) (d : TlbEntry) → position (λ (e : TlbEntry). e.page == p) es ≡ Some i
    → tlb_at es p ≡ Some (get_or es i d).translation
found es p i d h = let s = position-Some (λ (e : TlbEntry). e.page == p) es i d h in first_found es p i d s.0 s.1 s.2

no_page : (es : List TlbEntry) (p : ℕ) → ((k : ℕ) (d : TlbEntry) → k < length es → ((get_or es k d).page == p) ≡ false) → tlb_at es p ≡ None
no_page [] p n = refl
no_page (x ∷ xs) p n = rw (n 0 x (omega arith)) (no_page xs p (λ k d h. n (suc k) d (omega arith)))

pub not_found : (es : List TlbEntry) (p : ℕ) → position (λ (e : TlbEntry). e.page == p) es ≡ None → tlb_at es p ≡ None
not_found es p h = no_page es p (λ k d lt. none (nat_lt (position_or_len is_it es) (length es)) refl h k d lt)
  where
    is_it : TlbEntry → Bool
    is_it e = e.page == p

    none : (b : Bool) → nat_lt (position_or_len (λ (e : TlbEntry). e.page == p) es) (length es) ≡ b
        → cond b (Some (position_or_len (λ (e : TlbEntry). e.page == p) es)) None ≡ None → (k : ℕ) (d : TlbEntry) → k < length es
        → ((get_or es k d).page == p) ≡ false
    none true t e = absurd (cc)
    none false t e = λ k d lt.
        let all : length es ≤ position_or_len (λ (e : TlbEntry). e.page == p) es = grind (arith, nat_tests) in
        flip _ (prefix_len_passes (λ (e : TlbEntry). not (e.page == p)) es k d (omega arith))
      where
        flip : (b : Bool) → not b ≡ true → b ≡ false
        flip false e = refl
        flip true e = absurd (cc)
