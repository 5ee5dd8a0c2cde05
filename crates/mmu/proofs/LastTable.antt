-- Pages that share a table of the last level
use Rattle.std.proofs.Common.{◌≡◌, ◌≢◌, ℕ, ◌+◌, ◌*◌, ◌/◌, ◌%◌, ◌<◌, ◌≤◌, ◌^◌, ◌==◌, ◌||◌, Bool, true, false, cond, Option, None, List, length, get_or}
use Rattle.std.proofs.Common.{refl, sym, ap, ◌∙◌, arith}
use Rattle.std.proofs.Math.ListN.{set}
use Rattle.std.proofs.lemmas.List.{get_or-set_same, get_or-set_other}
use Rattle.std.proofs.lemmas.Bool.Decides.{nat_tests}
use Rattle.std.specs.Prelude.{Result, Ok, Err, OnErr}
use Rattle.std.proofs.Math.Nat.{div-div-eq-div-mul, mod-eq-sub-div-mul, div-mul-le_self}
use Rattle.vm_base.specs.Pages.{is_page}
use Rattle.vm_base.proofs.Functions.{eq_true, eq_false}
use Rattle.mmu.specs.declared.entry.Translation.{Translation}
use Rattle.mmu.specs.Tables.{on_pages, in_table, with_last_table}
use Rattle.mmu.proofs.Valid.{below}

-- they lie below the same table of each level, which has the pages of so many of the last
pub same_table : (P leaves p q : ℕ) → P ≡ 512 * leaves → q / 512 ≡ p / 512 → q / P ≡ p / P
same_table P leaves p q e h = at q ∙ ap (λ n. n / leaves) h ∙ sym (at p)
  where
    at : (n : ℕ) → n / P ≡ n / 512 / leaves
    at n = ap (λ m. n / m) e ∙ sym (div-div-eq-div-mul n 512 leaves)

rest_of : (P leaves n : ℕ) → P ≡ 512 * leaves → n ≡ n / P * leaves * 512 + n % P
rest_of P leaves n e =
    let m = mod-eq-sub-div-mul n P in
    let l = div-mul-le_self n P in
    let w : n / P * P ≡ n / P * leaves * 512 = ap (λ x. n / P * x) e ∙ turn (n / P) leaves in
    omega (arith, m, l, w)
  where
    turn : (a b : ℕ) → a * (512 * b) ≡ a * b * 512
    turn a b = omega arith

pub same_rest : (P leaves p q : ℕ) → P ≡ 512 * leaves → q / 512 ≡ p / 512 → (q % P) / 512 ≡ (p % P) / 512
same_rest P leaves p q e h =
    let k = ap (λ n. n * leaves) (same_table P leaves p q e h) in
    let a = rest_of P leaves q e in
    let b = rest_of P leaves p e in
    omega (arith, a, b, k, h)

-- valid pages without an entry
pub none_on_pages : (N : ℕ) (f : ℕ → Option Translation) (p : ℕ) → 2 ^ 35 ≤ N → ((q : ℕ) → q < N → q / 512 ≡ p / 512 → f q ≡ None)
    → (q : ℕ) → q / 512 ≡ p / 512 → on_pages f q ≡ None
none_on_pages N f p big h q same = go (is_page q) refl
  where
    go : (b : Bool) → is_page q ≡ b → cond b (f q) None ≡ None
    go true e = h q (below N q big e) same
    go false e = refl

pub on_any_err : {T E P : Type 0} (r : Result T E) → P → OnErr r P
on_any_err (Ok x) p = tt
on_any_err (Err e) p = p

-- ---- which tables of the last level are there

-- the last tables below a table of P pages, seen from all and from the table
shares_rest : (P leaves p q : ℕ) → P ≡ 512 * leaves → q / P ≡ p / P → ((q % P) / 512 == (p % P) / 512) ≡ (q / 512 == p / 512)
shares_rest P leaves p q e h =
    same_sum (p / P * leaves) ((q % P) / 512) ((p % P) / 512)
    ∙ ap (λ k. k * leaves + (q % P) / 512 == p / P * leaves + (p % P) / 512) (sym h)
    ∙ ap (λ n. n == p / P * leaves + (p % P) / 512) (sym (number q))
    ∙ ap (λ n. q / 512 == n) (sym (number p))
  where
    same_sum : (a x y : ℕ) → (x == y) ≡ (a + x == a + y)
    same_sum a x y = grind (arith, nat_tests)

    number : (n : ℕ) → n / 512 ≡ n / P * leaves + (n % P) / 512
    number n = let r = rest_of P leaves n e in omega (arith, r)

other_shares : (P leaves p q : ℕ) → P ≡ 512 * leaves → q / P ≢ p / P → (q / 512 == p / 512) ≡ false
other_shares P leaves p q e ne = by (q / 512 == p / 512) refl
  where
    by : (b : Bool) → (q / 512 == p / 512) ≡ b → (q / 512 == p / 512) ≡ false
    by true t = absurd (ne (same_table P leaves p q e (eq_true (q / 512) (p / 512) t)))
    by false t = t

-- a new table that has one entry has just the tables that lead to it
pub made_rest : (P p r : ℕ) → r < P → p < P → with_last_table p (λ _. P == 512) r ≡ with_last_table p (λ _. false) r
made_rest P p r a b = by (P == 512) refl
  where
    by : (t : Bool) → (P == 512) ≡ t → (r / 512 == p / 512 || (P == 512)) ≡ (r / 512 == p / 512 || false)
    by true t =
        let is : P ≡ 512 = eq_true P 512 t in
        let x : r / 512 ≡ 0 = omega arith in
        let y : p / 512 ≡ 0 = omega arith in
        grind (arith, nat_tests)
    by false t = ap (λ c. r / 512 == p / 512 || c) t

module _ {X : Type 0} (has : X → ℕ → Bool) (P : ℕ) where
  -- whether the page's last table is there below these tables
  abbrev pub Below : List (Option X) → ℕ → Bool
  Below xs q = in_table (λ b. has b (q % P)) (get_or xs (q / P) None)

  -- a table has one last table more
  pub one_more : (xs : List (Option X)) (leaves page i : ℕ) (new : Option X) → P ≡ 512 * leaves → 0 < P → i ≡ page / P → i < length xs
      → ((r : ℕ) → r < P → in_table (λ b. has b r) new ≡ with_last_table (page % P) (λ r. in_table (λ b. has b r) (get_or xs i None)) r)
      → (q : ℕ) → Below (set xs i new) q ≡ with_last_table page (Below xs) q
  one_more xs leaves page i new e pos at within same q = by (q / P == i) refl
    where
      by : (b : Bool) → (q / P == i) ≡ b → Below (set xs i new) q ≡ with_last_table page (Below xs) q
      by true t =
          let here : q / P ≡ i = eq_true (q / P) i t in
          let less : q % P < P = omega arith in
          ap (λ k. in_table (λ b. has b (q % P)) (get_or (set xs i new) k None)) here
          ∙ ap (in_table (λ b. has b (q % P))) (get_or-set_same xs i new None within)
          ∙ same (q % P) less
          ∙ ap (λ b. b || in_table (λ b. has b (q % P)) (get_or xs i None)) (shares_rest P leaves page q e (here ∙ at))
          ∙ ap (λ k. q / 512 == page / 512 || in_table (λ b. has b (q % P)) (get_or xs k None)) (sym here)
      by false t =
          let ne : q / P ≢ i = eq_false (q / P) i t in
          ap (in_table (λ b. has b (q % P))) (get_or-set_other xs i (q / P) new None ne)
          ∙ ap (λ b. b || Below xs q) (sym (other_shares P leaves page q e (λ h. ne (h ∙ sym at))))

  -- a table has the last tables that it had
  pub none_more : (xs : List (Option X)) (i : ℕ) (new : Option X) → i < length xs
      → ((r : ℕ) → in_table (λ b. has b r) new ≡ in_table (λ b. has b r) (get_or xs i None)) → (q : ℕ) → Below (set xs i new) q ≡ Below xs q
  none_more xs i new within same q = by (q / P == i) refl
    where
      by : (b : Bool) → (q / P == i) ≡ b → Below (set xs i new) q ≡ Below xs q
      by true t =
          let here : q / P ≡ i = eq_true (q / P) i t in
          ap (λ k. in_table (λ b. has b (q % P)) (get_or (set xs i new) k None)) here
          ∙ ap (in_table (λ b. has b (q % P))) (get_or-set_same xs i new None within)
          ∙ same (q % P)
          ∙ ap (λ k. in_table (λ b. has b (q % P)) (get_or xs k None)) (sym here)
      by false t = ap (in_table (λ b. has b (q % P))) (get_or-set_other xs i (q / P) new None (eq_false (q / P) i t))
