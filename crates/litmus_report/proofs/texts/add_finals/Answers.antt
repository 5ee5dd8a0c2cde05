use Rattle.std.proofs.Common.{inr, arith}
use Rattle.std.proofs.lemmas.Bool.Decides.{nat_tests}
use Rattle.litmus_report.proofs.TextLemmas.{finals_end, written_all}
use Rattle.litmus_report.proofs.texts.add_finals.Goals as goal

pub returns-else-at-finals : goal.returns-else-at-finals
returns-else-at-finals g c = written_all _ _ _ c.addrs.invariant.written
    (finals_end c.args.addrs.now c.args.finals.now c.addrs.at (inr (grind (arith, nat_tests, c.if-at-finals.false))))
