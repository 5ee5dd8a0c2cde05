use Rattle.std.proofs.Common.{◌≡◌, ◌++◌, drop}
use Rattle.litmus_report.specs.Texts.{more_text}
use Rattle.litmus_report.proofs.texts.add_more.Given as goal

-- those so far, and those that are left, are all
abbrev pub invariant-loop-term : goal.invariant-loop-term
invariant-loop-term g l = l.out.items ++ more_text (drop l.term-index l.terms) ≡ l.fn.out.items ++ more_text l.terms
