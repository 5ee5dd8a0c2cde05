use Rattle.std.proofs.Common.{◌≡◌, drop, map}
use Rattle.litmus_text.specs.Scripts.{claim_of, claims_fault}
use Rattle.litmus_text.proofs.script.claims_fault.Given as goal

-- those so far have no fault
abbrev pub invariant-loop-clause : goal.invariant-loop-clause
invariant-loop-clause g l =
    claims_fault l.calls l.finals (map claim_of (drop l.clause-index l.clauses)) ≡ claims_fault l.calls l.finals (map claim_of l.clauses)
