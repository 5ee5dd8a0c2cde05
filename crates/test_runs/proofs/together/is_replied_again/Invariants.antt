use Rattle.std.proofs.Common.{◌≡◌}
use Rattle.test_runs.proofs.together.is_replied_again.Given as goal

-- the core is one of the space
abbrev pub invariant-loop-entry : goal.invariant-loop-entry
invariant-loop-entry l = l.one.space ≡ l.space.table.shared.table_id
