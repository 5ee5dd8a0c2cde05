use Rattle.std.proofs.Common.{◌≡◌, ◌++◌, drop, map}
use Rattle.std.specs.List.{flat_map}
use Rattle.litmus.specs.Lists.{row_line}
use Rattle.litmus.proofs.lists.list_text.Given as goal

-- those so far, and those that are left, are all
abbrev pub invariant-loop-row : goal.invariant-loop-row
invariant-loop-row g l = l.out.items ++ flat_map (λ row. row_line l.maps (map g.T.HasOutcome.outcome l.outcomes) row.1) (drop l.row-index l.rows)
    ≡ flat_map (λ row. row_line l.maps (map g.T.HasOutcome.outcome l.outcomes) row.1) l.rows
