-- Pages of a range that are gone through
use Rattle.std.proofs.Common.{◌≡◌, ◌≢◌, ℕ, ◌+◌, ◌<◌, ◌≤◌, ◌==◌, ◌&&◌, Bool, true, false, cond, nat_le, nat_lt, Option, None, Some, refl, sym, ap, ◌∙◌, arith}
use Rattle.std.proofs.lemmas.Bool.Decides.{nat_tests}
use Rattle.vm_base.specs.declared.page.PageRange.{PageRange}
use Rattle.vm_base.specs.Functions.{across, has, over, put}

-- those of the range that are below a page have this, and others what they had
abbrev pub Gathered : {V : Type 0} → PageRange → ℕ → (ℕ → Option V) → (ℕ → Option V) → (ℕ → Option V) → Type 0
Gathered r p f old now = (q : ℕ) → now q ≡ cond (has r q && nat_lt q p) (f q) (old q)

inside : (r : PageRange) (p : ℕ) → r.first ≤ p → p < r.end → has r p ≡ true
inside r p low high = let a : nat_le r.first p ≡ true = grind (arith, nat_tests, low) in let b : nat_lt p r.end ≡ true = grind (arith, nat_tests, high) in
    ap (λ x. x && nat_lt p r.end) a ∙ b

first_of : (r : PageRange) (p : ℕ) → has r p ≡ true → r.first ≤ p
first_of r p h = go (nat_le r.first p) refl h
  where
    go : (b : Bool) → nat_le r.first p ≡ b → b && nat_lt p r.end ≡ true → r.first ≤ p
    go true i e = grind (arith, nat_tests, i)
    go false i e = absurd cc

end_of : (r : PageRange) (p : ℕ) → has r p ≡ true → p < r.end
end_of r p h = go (nat_le r.first p) (nat_lt p r.end) refl h
  where
    go : (a b : Bool) → nat_lt p r.end ≡ b → a && b ≡ true → p < r.end
    go true true i e = grind (arith, nat_tests, i)
    go true false i e = absurd cc
    go false b i e = absurd cc

pub gathered_none : {V : Type 0} (r : PageRange) (f old : ℕ → Option V) → Gathered r r.first f old old
gathered_none r f old q = go (has r q) refl (nat_lt q r.first) refl
  where
    go : (h : Bool) → has r q ≡ h → (l : Bool) → nat_lt q r.first ≡ l → old q ≡ cond (has r q && nat_lt q r.first) (f q) (old q)
    go false j l k = ap (λ b. cond (b && nat_lt q r.first) (f q) (old q)) (sym j)
    go true j false k = ap (λ b. cond b (f q) (old q)) (sym (ap (λ b. has r q && b) k ∙ ap (λ b. b && false) j))
    go true j true k = absurd (let low = first_of r q j in let lt : q < r.first = grind (arith, nat_tests, k) in omega (arith, low, lt))

pub gathered_more : {V : Type 0} (r : PageRange) (f old cur new : ℕ → Option V) (p n : ℕ) → r.first ≤ p → p < r.end → p < n
    → ((q : ℕ) → has r q ≡ true → old q ≡ None) → ((q : ℕ) → p < q → q < n → f q ≡ None) → Gathered r p f old cur
    → ((q : ℕ) → new q ≡ put cur p (f p) q) → Gathered r n f old new
gathered_more r f old cur new p n low high above none free before same q =
    same q ∙ ap (λ x. cond (q == p) (f p) x) (before q) ∙ go (q == p) refl (has r q) refl (nat_lt q p) refl (nat_lt q n) refl
  where
    go : (b : Bool) → (q == p) ≡ b → (h : Bool) → has r q ≡ h → (l : Bool) → nat_lt q p ≡ l → (m : Bool) → nat_lt q n ≡ m
        → cond b (f p) (cond (h && l) (f q) (old q)) ≡ cond (h && m) (f q) (old q)
    go true i true j l k true u = let is : q ≡ p = grind (arith, nat_tests, i) in ap f (sym is)
    go true i true j l k false u = absurd (let is : q ≡ p = grind (arith, nat_tests, i) in let out : n ≤ q = grind (arith, nat_tests, u) in
        omega (arith, is, out, above))
    go true i false j l k m u = absurd (let is : q ≡ p = grind (arith, nat_tests, i) in
        let yes = ap (has r) is ∙ inside r p low high in let no : true ≡ false = sym yes ∙ j in cc)
    go false i false j l k m u = refl
    go false i true j true k true u = refl
    go false i true j true k false u = absurd (let lt : q < p = grind (arith, nat_tests, k) in let out : n ≤ q = grind (arith, nat_tests, u) in
        omega (arith, lt, out, above))
    go false i true j false k true u =
        let ne : q ≢ p = grind (arith, nat_tests, i) in
        let le : p ≤ q = grind (arith, nat_tests, k) in
        let lt : q < n = grind (arith, nat_tests, u) in
        none q j ∙ sym (free q (omega (arith, ne, le)) lt)
    go false i true j false k false u = refl

pub gathered_all : {V : Type 0} (r : PageRange) (f old now : ℕ → Option V) (p : ℕ) → r.end ≤ p → Gathered r p f old now
    → (q : ℕ) → now q ≡ across old (has r) f q
gathered_all r f old now p high all q = all q ∙ go (has r q) refl (nat_lt q p) refl
  where
    go : (h : Bool) → has r q ≡ h → (l : Bool) → nat_lt q p ≡ l → cond (has r q && nat_lt q p) (f q) (old q) ≡ cond (has r q) (f q) (old q)
    go h j true k = ap (λ b. cond (has r q && b) (f q) (old q)) k ∙ ap (λ b. cond b (f q) (old q)) (and_true (has r q))
      where
        and_true : (b : Bool) → b && true ≡ b
        and_true true = refl
        and_true false = refl
    go false j false k = ap (λ b. cond (b && nat_lt q p) (f q) (old q)) j ∙ sym (ap (λ b. cond b (f q) (old q)) j)
    go true j false k = absurd (let lt = end_of r q j in let out : p ≤ q = grind (arith, nat_tests, k) in omega (arith, lt, out, high))

-- a range of one page
pub one_across : {V : Type 0} (r : PageRange) (f old now : ℕ → Option V) → r.end ≡ r.first + 1 → ((q : ℕ) → now q ≡ put old r.first (f r.first) q)
    → (q : ℕ) → now q ≡ across old (has r) f q
one_across r f old now one same q = same q ∙ go (q == r.first) refl (has r q) refl
  where
    go : (b : Bool) → (q == r.first) ≡ b → (h : Bool) → has r q ≡ h → cond b (f r.first) (old q) ≡ cond h (f q) (old q)
    go true i true j = let is : q ≡ r.first = grind (arith, nat_tests, i) in ap f (sym is)
    go true i false j = absurd (let is : q ≡ r.first = grind (arith, nat_tests, i) in
        let yes = ap (has r) is ∙ inside r r.first (omega arith) (omega (arith, one)) in let no : true ≡ false = sym yes ∙ j in cc)
    go false i true j = absurd (let ne : q ≢ r.first = grind (arith, nat_tests, i) in let low = first_of r q j in let high = end_of r q j in
        omega (arith, ne, low, high, one))
    go false i false j = refl

-- a range that is cleared first
pub cleared_across : {V : Type 0} (r : PageRange) (f old mid now : ℕ → Option V) → ((q : ℕ) → mid q ≡ over old (has r) None q)
    → ((q : ℕ) → now q ≡ across mid (has r) f q) → (q : ℕ) → now q ≡ across old (has r) f q
cleared_across r f old mid now clear after q = after q ∙ ap (λ x. cond (has r q) (f q) x) (clear q) ∙ go (has r q)
  where
    go : (b : Bool) → cond b (f q) (cond b None (old q)) ≡ cond b (f q) (old q)
    go true = refl
    go false = refl

pub cleared_none : {V : Type 0} (r : PageRange) (old mid : ℕ → Option V) → ((q : ℕ) → mid q ≡ over old (has r) None q)
    → (q : ℕ) → has r q ≡ true → mid q ≡ None
cleared_none r old mid clear q h = clear q ∙ ap (λ b. cond b None (old q)) h
