use Rattle.std.proofs.Common.{◌≡◌, ◌^◌, ◌%◌}
use Rattle.coded.proofs.bits.bits_of.Given as goal

-- the bits below the index
abbrev pub invariant-cores : goal.invariant-cores
invariant-cores l = l.bits ≡ l.fn.cores % 2 ^ l.index
