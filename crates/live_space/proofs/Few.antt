-- How many cores a set can have
use Rattle.std.proofs.Common.{ℕ, zero, suc, ◌+◌, ◌≤◌, Bool, true, false, arith}
use Rattle.std.specs.Prelude.{cond}
use Rattle.vm_base.specs.Cores.{members}
use Rattle.live_pages.specs.Targets.{count_below}

at_most_one : (b : Bool) → cond b 1 0 ≤ 1
at_most_one true = omega arith
at_most_one false = omega arith

pub count_le : (set n : ℕ) → count_below set n ≤ n
unfolding count_below
count_le set zero = omega arith
count_le set (suc n) = let below = count_le set n in let one = at_most_one (members set n) in omega arith

pub few_targets : (set : ℕ) → count_below set 64 ≤ 64
few_targets set = count_le set 64
