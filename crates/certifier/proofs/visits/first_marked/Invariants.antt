use Rattle.certifier.specs.Looks.{NoneMarked}
use Rattle.certifier.proofs.visits.first_marked.Given as goal

-- no slot so far is marked that has valid pages
abbrev pub invariant-slots : goal.invariant-slots
invariant-slots g l = NoneMarked l.at l.slots l.looks
