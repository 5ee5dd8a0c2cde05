use Rattle.certifier.proofs.Histories.{DatedBelow}
use Rattle.certifier.proofs.looks.are_dated.Given as goal

-- the tickets so far rise, and are below n
abbrev pub invariant-changes : goal.invariant-changes
invariant-changes l = DatedBelow l.n l.at l.changes
