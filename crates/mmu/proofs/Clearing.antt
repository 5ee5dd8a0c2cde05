-- Tables of P pages each, cleared one after another
use Rattle.std.proofs.Common.{◌≡◌, ◌≢◌, ℕ, ◌+◌, ◌*◌, ◌/◌, ◌%◌, ◌<◌, ◌≤◌, ◌==◌, ◌&&◌, Bool, true, false, cond, List, length, get_or, refl}
use Rattle.std.proofs.Common.{sym, ap, ◌∙◌, arith, nat_lt, nat_le, ◌⊎◌, inl, inr}
use Rattle.std.proofs.Math.ListN.{set}
use Rattle.std.proofs.Math.Nat.{div-lt_iff_lt-mul, mul-le-mul_right}
use Rattle.std.proofs.lemmas.List.{get_or-set_same, get_or-set_other}
use Rattle.std.proofs.lemmas.Bool.Decides.{nat_tests}
use Rattle.std.specs.Int.{div_ceil}
use Rattle.std.proofs.lemmas.Grind.{div_ceil_times}
use Rattle.std.proofs.lemmas.Bool.{cases_lt}
use Rattle.vm_base.specs.declared.page.PageRange.{PageRange}
use Rattle.vm_base.specs.Functions.{has}
use Rattle.vm_base.proofs.Functions.{eq_true, eq_false}

same_test : (b : Bool) (i : ℕ) → b && nat_lt i (i + 1) ≡ b
same_test true i = grind (arith, nat_tests)
same_test false i = refl

not_yet : (b : Bool) (i : ℕ) → b && nat_lt i i ≡ false
not_yet true i = grind (arith, nat_tests)
not_yet false i = refl

other_test : (k i : ℕ) → k ≢ i → nat_lt k (i + 1) ≡ nat_lt k i
other_test k i ne = grind (arith, nat_tests)

and_left : (a b : Bool) → a && b ≡ true → a ≡ true
and_left true b e = refl
and_left false b e = absurd (cc)

and_right : (a b : Bool) → a && b ≡ true → b ≡ true
and_right true b e = e
and_right false b e = absurd (cc)

lt_true : (a b : ℕ) → nat_lt a b ≡ true → a < b
lt_true a b e = grind (arith, nat_tests)

le_true : (a b : ℕ) → nat_le a b ≡ true → a ≤ b
le_true a b e = grind (arith, nat_tests)

module _ {X V : Type 0} (at : X → ℕ → V) (none : V) (old : List X) (d : X) (P : ℕ) (s : ℕ → Bool) where
  -- what is read after the tables before i were cleared
  abbrev pub Cleared : List X → ℕ → Type 0
  Cleared cur i = (q : ℕ) → at (get_or cur (q / P) d) (q % P) ≡ cond (s q && nat_lt (q / P) i) none (at (get_or old (q / P) d) (q % P))

  pub cleared_next : (cur : List X) (i : ℕ) (part : ℕ → Bool) (x : X) → 0 < P → i < length cur → Cleared cur i
      → ((r : ℕ) → r < P → at x r ≡ cond (part r) none (at (get_or cur i d) r)) → ((r : ℕ) → r < P → part r ≡ s (i * P + r)) → Cleared (set cur i x) (i + 1)
  cleared_next cur i part x pos h inv new same q = by (q / P == i) refl
    where
      by : (b : Bool) → (q / P == i) ≡ b → at (get_or (set cur i x) (q / P) d) (q % P) ≡ cond (s q && nat_lt (q / P) (i + 1)) none
          (at (get_or old (q / P) d) (q % P))
      by true t =
          let e : q / P ≡ i = eq_true (q / P) i t in
          let less : q % P < P = omega arith in
          let whole : i * P + q % P ≡ q = ap (λ k. k * P + q % P) (sym e) ∙ omega arith in
          let before : at (get_or cur i d) (q % P) ≡ at (get_or old i d) (q % P) =
          ap (λ k. at (get_or cur k d) (q % P)) (sym e) ∙ inv q ∙ ap (λ k. cond (s q && nat_lt k i) none (at (get_or old k d) (q % P))) e
          ∙ ap (λ b. cond b none (at (get_or old i d) (q % P))) (not_yet (s q) i) in
          ap (λ k. at (get_or (set cur i x) k d) (q % P)) e
          ∙ ap (λ y. at y (q % P)) (get_or-set_same cur i x d h)
          ∙ new (q % P) less
          ∙ ap (λ b. cond b none (at (get_or cur i d) (q % P))) (same (q % P) less ∙ ap s whole)
          ∙ ap (cond (s q) none) before
          ∙ ap (λ b. cond b none (at (get_or old i d) (q % P))) (sym (same_test (s q) i))
          ∙ ap (λ k. cond (s q && nat_lt k (i + 1)) none (at (get_or old k d) (q % P))) (sym e)
      by false t =
          let ne : q / P ≢ i = eq_false (q / P) i t in
          ap (λ y. at y (q % P)) (get_or-set_other cur i (q / P) x d ne)
          ∙ inv q
          ∙ ap (λ b. cond (s q && b) none (at (get_or old (q / P) d) (q % P))) (sym (other_test (q / P) i ne))

-- no page of the range lies before its first table
pub none_before : (r : PageRange) (P q : ℕ) → 0 < P → has r q && nat_lt (q / P) (r.first / P) ≡ false
none_before r P q pos = by (has r q && nat_lt (q / P) (r.first / P)) refl
  where
    by : (b : Bool) → has r q && nat_lt (q / P) (r.first / P) ≡ b → has r q && nat_lt (q / P) (r.first / P) ≡ false
    by false e = e
    by true e =
        let first : r.first ≤ q = le_true r.first q (and_left (nat_le r.first q) (nat_lt q r.end) (and_left (has r q) (nat_lt (q / P) (r.first / P)) e)) in
        let less : q / P < r.first / P = lt_true (q / P) (r.first / P) (and_right (has r q) (nat_lt (q / P) (r.first / P)) e) in
        absurd (apart q r.first P pos first less)
      where
        apart : (q f P : ℕ) → 0 < P → f ≤ q → q / P < f / P → ⊥
        apart q f P pos le lt =
            let a : (q / P + 1) * P ≤ (f / P) * P = mul-le-mul_right P (omega arith) in
            omega arith

-- each page of the range lies before its last table's end
pub all_before : (r : PageRange) (P q i : ℕ) → 0 < P → r.end ≤ i * P → has r q && nat_lt (q / P) i ≡ has r q
all_before r P q i pos le = by (has r q) refl
  where
    by : (b : Bool) → has r q ≡ b → b && nat_lt (q / P) i ≡ b
    by false e = refl
    by true e =
        let less : q < r.end = lt_true q r.end (and_right (nat_le r.first q) (nat_lt q r.end) e) in
        let k : q / P < i = (div-lt_iff_lt-mul pos).1 (omega arith) in
        test (q / P) i k
      where
        test : (a b : ℕ) → a < b → nat_lt a b ≡ true
        test a b h = grind (arith, nat_tests)

-- a loop over the range has come to its end
pub whole_range : (r : PageRange) (p q : ℕ) → r.first ≤ p → (r.end < p → p ≡ r.first) → r.end ≤ p → has (record { first = r.first; end = p }) q ≡ has r q
whole_range r p q a b e = grind (arith, nat_tests)

-- a place beyond all has no table, so that nothing is left to clear there
pub beyond_places : {V : Type 0} (none v : V) (b : Bool) (k i : ℕ) → (i ≤ k → v ≡ none) → cond (b && nat_lt k i) none v ≡ cond b none v
beyond_places none v b k i past = by (cases_lt k i)
  where
    before : (b : Bool) → k < i → b && nat_lt k i ≡ b
    before true h = grind (arith, nat_tests)
    before false h = refl

    same : (a b : Bool) → cond a none none ≡ cond b none none
    same true true = refl
    same true false = refl
    same false true = refl
    same false false = refl

    by : (k < i) ⊎ (i ≤ k) → cond (b && nat_lt k i) none v ≡ cond b none v
    by (inl h) = ap (λ c. cond c none v) (before b h)
    by (inr h) = ap (cond (b && nat_lt k i) none) (past h) ∙ same (b && nat_lt k i) b ∙ sym (ap (cond b none) (past h))

-- none of the range's pages lies behind its last table
pub past_end : (e P n i : ℕ) → 0 < P → n ≡ div_ceil e P → n ≤ i → e ≤ i * P
past_end e P n i pos is le =
    let a : n * P ≤ i * P = mul-le-mul_right P le in
    let b : e ≤ n * P = rw is ((div_ceil_times e P pos).0) in
    omega arith

-- a loop over the tables, and no further than the places, has cleared all pages of the range
pub all_cleared : {V : Type 0} (none v : V) (r : PageRange) (P q n i : ℕ) → 0 < P → n ≡ div_ceil r.end P → (i < n → i ≤ q / P → v ≡ none)
    → cond (has r q && nat_lt (q / P) i) none v ≡ cond (has r q) none v
all_cleared none v r P q n i pos is past = by (cases_lt i n)
  where
    by : (i < n) ⊎ (n ≤ i) → cond (has r q && nat_lt (q / P) i) none v ≡ cond (has r q) none v
    by (inl h) = beyond_places none v (has r q) (q / P) i (past h)
    by (inr h) = ap (λ b. cond b none v) (all_before r P q i pos (past_end r.end P n i pos is h))
