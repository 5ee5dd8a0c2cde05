-- Small facts on tests, options and results
use Rattle.slot_lock.proofs.Words.{◌≡◌, ◌≢◌, ℕ, ◌==◌, ◌||◌, ◌↔◌, Bool, true, false, Option, Some, None, is_some, refl, arith, OnOk, nat_tests}
use Rattle.std.proofs.Common.{IsTrue}
use Rattle.std.specs.Prelude.{Result, Ok, Err, OnErr}

-- ---- tests

pub two : (b : Bool) → b ≡ false → b ≡ true → ⊥
two b e f = cc

pub same_test : (a b : ℕ) → a ≡ b → (a == b) ≡ true
same_test a b h = grind (arith, nat_tests)

pub other_test : (a b : ℕ) → a ≢ b → (a == b) ≡ false
other_test a b h = grind (arith, nat_tests)

pub either_left : (a b : Bool) → a ≡ true → a || b ≡ true
either_left a b e = rw e refl

pub either_right : (a b : Bool) → b ≡ true → a || b ≡ true
either_right true b e = refl
either_right false b e = e

-- by an answer, and by none
pub by_answer : {R : Type 0} (b : Bool) → (IsTrue b → R) → (¬ IsTrue b → R) → R
by_answer true f g = f refl
by_answer false f g = g (λ h. two false refl h)

pub is_answer : {P : Type 0} (b : Bool) → (IsTrue b → P) → (¬ IsTrue b → P → ⊥) → IsTrue b ↔ P
is_answer true f g = (f, λ _. refl)
is_answer false f g = ((λ h. absurd (two false refl h)), λ p. absurd (g (λ h. two false refl h) p))

-- ---- options

pub none_of : {A : Type 0} (o : Option A) → is_some o ≡ false → o ≡ None
none_of None h = refl
none_of (Some x) h = cc

pub no_some : {A : Type 0} (o : Option A) → is_some o ≡ true → o ≡ None → ⊥
no_some None h e = cc
no_some (Some x) h e = cc

-- ---- results

pub on_err : {T E P : Type 0} (r : Result T E) → P → OnErr r P
on_err (Ok x) p = tt
on_err (Err e) p = p

pub on_err_both : {T E P Q : Type 0} (r : Result T E) → P → Q → OnErr r (P × Q)
on_err_both (Ok x) p q = tt
on_err_both (Err e) p q = (p, q)

-- from what a success, or a failure, leaves
pub ok_along : {X E : Type 0} {P Q : Type 0} (r : Result X E) → (P → Q) → OnOk r P → OnOk r Q
ok_along (Ok x) f h = f h
ok_along (Err e) f h = h

pub err_along : {X E : Type 0} {P Q : Type 0} (r : Result X E) → (P → Q) → OnErr r P → OnErr r Q
err_along (Ok x) f h = h
err_along (Err e) f h = f h
