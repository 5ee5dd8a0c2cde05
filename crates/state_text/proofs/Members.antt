-- How many members of a set are before the next number
use Rattle.std.proofs.Common.{◌≡◌, ℕ, ◌+◌, true, false, arith}
use Rattle.frames.specs.Bits.{count_below}
use Rattle.vm_base.specs.Cores.{members}
use Rattle.watched.proofs.Counting.{count_at}

-- a core that isn't in the set
pub count_kept : (set c n : ℕ) → members set c ≡ false → n ≡ count_below (members set) c → n ≡ count_below (members set) (c + 1)
count_kept set c n out is =
    let e : count_below (members set) (c + 1) ≡ 0 + count_below (members set) c = count_at (members set) c false out in omega (arith, e, is)

-- one that is
pub count_more : (set c n : ℕ) → members set c ≡ true → n ≡ count_below (members set) c → n + 1 ≡ count_below (members set) (c + 1)
count_more set c n here is =
    let e : count_below (members set) (c + 1) ≡ 1 + count_below (members set) c = count_at (members set) c true here in omega (arith, e, is)
