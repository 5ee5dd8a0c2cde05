use Rattle.std.proofs.Common.{◌≡◌, take}
use Rattle.litmus_outcomes.proofs.machines.are_same_requests.Given as goal

abbrev pub invariant-requests : goal.invariant-requests
invariant-requests l = take l.k l.one ≡ take l.k l.other
