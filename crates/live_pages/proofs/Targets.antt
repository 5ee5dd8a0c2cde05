-- The cores of a set, counted one after another
use Rattle.std.proofs.Common.{◌≡◌, ℕ, zero, suc, ◌+◌, ◌*◌, ◌<◌, ◌≤◌, ◌⊎◌, inl, inr, Bool, arith, refl, ap, ◌∙◌, add-one}
use Rattle.std.specs.Prelude.{cond}
use Rattle.std.proofs.lemmas.Bool.{cases_lt}
use Rattle.vm_base.specs.Cores.{members}
use Rattle.live_pages.specs.Targets.{count_below}

pub count_none : (set : ℕ) → count_below set 0 ≡ 0
unfolding count_below
count_none set = refl

pub count_next : (set core : ℕ) → count_below set (core + 1) ≡ count_below set core + cond (members set core) 1 0
unfolding count_below
count_next set core = rw add-one refl

pub count_within : (set core n : ℕ) → core ≤ n → count_below set core ≤ count_below set n
unfolding count_below
count_within set core zero le = let e : core ≡ 0 = omega arith in rw e (omega arith)
count_within set core (suc n) le = by (cases_lt core (suc n)) (λ l. count_within set core n l)
  where
    by : (core < suc n) ⊎ (suc n ≤ core) → (core ≤ n → count_below set core ≤ count_below set n)
        → count_below set core ≤ count_below set (suc n)
    by (inl lt) h = let l : count_below set core ≤ count_below set n = h (omega arith) in omega arith
    by (inr ge) h = let e : core ≡ suc n = omega arith in rw e (omega arith)

-- one core more is looked at
pub count_at : (set core : ℕ) (b : Bool) → members set core ≡ b → count_below set (core + 1) ≡ count_below set core + cond b 1 0
count_at set core b e = count_next set core ∙ ap (λ (x : Bool). count_below set core + cond x 1 0) e

-- the cores before a core of a set of so much room leave room for it
pub room_at : (set core all now : ℕ) → core < 64 → 126 * count_below set 64 ≤ all → all ≤ now + 126 * count_below set core
    → 126 * cond (members set core) 1 0 ≤ now
room_at set core all now lt few used =
    let next = count_next set core in
    let within : count_below set (core + 1) ≤ count_below set 64 = count_within set (core + 1) 64 (omega arith) in
    omega arith
