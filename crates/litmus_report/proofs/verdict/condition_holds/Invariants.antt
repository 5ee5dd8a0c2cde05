use Rattle.std.proofs.Common.{◌≡◌, drop}
use Rattle.litmus_report.specs.Verdicts.{condition_holds, holds_from}
use Rattle.litmus_report.proofs.verdict.condition_holds.Given as goal

-- the facts that are left decide
abbrev pub invariant-loop-term : goal.invariant-loop-term
invariant-loop-term g l = holds_from l.named.calls.now l.named.addrs.now (g.T.HasOutcome.outcome l.outcome) l.held (drop l.term-index l.terms)
    ≡ condition_holds l.named.calls.now l.named.addrs.now l.terms (g.T.HasOutcome.outcome l.outcome)
