-- Sets of numbers, kept as bits in words of 64
use Rattle.std.specs.Prelude.{ℕ, ◌+◌, ◌/◌, ◌%◌, Bool, cond, zero, suc, List, slice_index}
use Rattle.vm_base.specs.Cores.{members}

-- the set whose member k is bit k % 64 of word k / 64
unfoldable pub bit_in : List ℕ → ℕ → Bool
bit_in words k = members (slice_index words (k / 64)) (k % 64)

-- how many numbers below n are in the set
unfoldable pub count_below : (ℕ → Bool) → ℕ → ℕ
count_below s zero = 0
count_below s (suc n) = cond (s n) 1 0 + count_below s n
