use Rattle.std.proofs.Common.{◌≡◌, drop}
use Rattle.litmus_text.specs.Scripts.{terms_fault}
use Rattle.litmus_text.proofs.script.terms_fault.Given as goal

-- those so far have no fault
abbrev pub invariant-loop-term : goal.invariant-loop-term
invariant-loop-term l = terms_fault l.calls l.finals l.line (drop l.term-index l.terms) ≡ terms_fault l.calls l.finals l.line l.terms
