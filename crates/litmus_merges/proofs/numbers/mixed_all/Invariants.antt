use Rattle.std.proofs.Common.{◌≡◌, ◌<◌, ◌^◌, take}
use Rattle.litmus_merges.specs.Numbers.{mixed_all}
use Rattle.litmus_merges.proofs.numbers.mixed_all.Given as goal

-- the number of the replies so far
abbrev pub invariant-replies : goal.invariant-replies
invariant-replies l = record {
  value : l.all ≡ mixed_all l.number (take l.k l.replies);
  small : l.all < 2 ^ 32;
}
