use Rattle.std.proofs.Common.{drop}
use Rattle.litmus.specs.Runs.{PerformsInOrder}
use Rattle.litmus.proofs.in_order.perform_in_order.Given as goal

-- if what is left performs the calls that are left, all of it performs all
abbrev pub invariant-calls : goal.invariant-calls
invariant-calls l = PerformsInOrder (drop l.at l.calls) l.rest l.others → PerformsInOrder l.calls l.events l.outcomes
