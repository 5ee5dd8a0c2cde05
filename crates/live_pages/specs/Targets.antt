-- How many cores a call has to tell
use Rattle.std.specs.Prelude.{ℕ, zero, suc, ◌+◌, cond}
use Rattle.vm_base.specs.Cores.{members}

-- how many cores below the bound are in the set
unfoldable pub count_below : ℕ → ℕ → ℕ
count_below set zero = 0
count_below set (suc core) = count_below set core + cond (members set core) 1 0
