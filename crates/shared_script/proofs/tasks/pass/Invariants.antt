use Rattle.std.proofs.Common.{◌≡◌}
use Rattle.shared_script.proofs.tasks.pass.Given as goal

-- the core has made no aside
abbrev pub invariant-tries : goal.invariant-tries
invariant-tries g l = l.core ≡ l.initial.core
