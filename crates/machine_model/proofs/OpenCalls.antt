-- How many calls have no reply yet, where one call moves on
use Rattle.machine_model.proofs.Words.{◌≡◌, ◌≢◌, ℕ, suc, zero, ◌<◌, ◌+◌, Bool, true, false, ◌==◌, refl, ap, arith, ◌∙◌, if◌then◌else◌, nat_tests, put}
use Rattle.machine_model.proofs.Words.{put_same, put_other, Phase, Free, is_open}
use Rattle.machine_model.specs.Orderly.{open_calls}

-- 1 if the call has no reply yet
abbrev pub one : Phase → ℕ
one phase = if is_open phase then 1 else 0

-- only the cores below n are looked at
open_same : (g h : ℕ → Phase) (n : ℕ) → ((j : ℕ) → j < n → g j ≡ h j) → open_calls g n ≡ open_calls h n
unfolding open_calls
open_same g h zero e = refl
open_same g h (suc n) e =
    let a : one (g n) ≡ one (h n) = ap one (e n (omega arith)) in
    let b : open_calls g n ≡ open_calls h n = open_same g h n (λ j lt. e j (omega (arith, lt))) in
    omega (arith, a, b)

-- one call moves on: what it was goes out, and what it is comes in
pub open_put : (g : ℕ → Phase) (c : ℕ) (phase : Phase) (n : ℕ) → c < n → open_calls (put g c phase) n + one (g c) ≡ open_calls g n + one phase
unfolding open_calls
open_put g c phase zero h = absurd (omega arith)
open_put g c phase (suc n) h = go (λ lt. open_put g c phase n lt) (n == c) refl
  where
    go : (c < n → open_calls (put g c phase) n + one (g c) ≡ open_calls g n + one phase) → (b : Bool) → (n == c) ≡ b
        → open_calls (put g c phase) (suc n) + one (g c) ≡ open_calls g (suc n) + one phase
    go ih true e =
        let k : n ≡ c = grind (arith, nat_tests) in
        let a : open_calls (put g c phase) n ≡ open_calls g n = open_same (put g c phase) g n (λ j lt. put_other g c phase j (omega (arith, lt, k))) in
        let b : one (put g c phase n) ≡ one phase = ap one (ap (put g c phase) k ∙ put_same g c phase) in
        let d : one (g n) ≡ one (g c) = ap (λ m. one (g m)) k in
        omega arith
    go ih false e =
        let ne : n ≢ c = grind (arith, nat_tests) in
        let a : one (put g c phase n) ≡ one (g n) = ap one (put_other g c phase n ne) in
        let b = ih (omega arith) in
        omega arith

-- no core has a call
pub open_none : (n : ℕ) → open_calls (λ c. Free) n ≡ 0
unfolding open_calls
open_none zero = refl
open_none (suc n) = let h = open_none n in omega (arith, h)
