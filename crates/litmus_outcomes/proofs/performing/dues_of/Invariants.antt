use Rattle.std.proofs.Common.{◌≡◌, ◌++◌, drop}
use Rattle.litmus_outcomes.specs.Dues.{dues_of}
use Rattle.litmus_outcomes.proofs.performing.dues_of.Given as goal

-- those so far, and those to come
abbrev pub invariant-calls : goal.invariant-calls
invariant-calls g l = l.dues.items ++ dues_of (drop l.k l.calls) (drop l.k l.replies) ≡ dues_of l.calls l.replies
