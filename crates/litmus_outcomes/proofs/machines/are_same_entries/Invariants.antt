use Rattle.std.proofs.Common.{◌≡◌, take}
use Rattle.litmus_outcomes.proofs.machines.are_same_entries.Given as goal

abbrev pub invariant-entries : goal.invariant-entries
invariant-entries l = take l.k l.one ≡ take l.k l.other
