use Rattle.std.proofs.Common.{◌≡◌, drop}
use Rattle.std.specs.List.{list_any}
use Rattle.litmus_report.specs.Verdicts.{names_lack}
use Rattle.litmus_report.proofs.verdict.name_lack.Given as goal

-- none so far
abbrev pub invariant-loop-term : goal.invariant-loop-term
invariant-loop-term l = list_any (λ t. names_lack t.fact) (drop l.term-index l.terms) ≡ list_any (λ t. names_lack t.fact) l.terms
