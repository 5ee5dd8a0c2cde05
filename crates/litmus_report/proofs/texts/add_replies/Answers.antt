use Rattle.std.proofs.Common.{inr, arith}
use Rattle.std.proofs.lemmas.Bool.Decides.{nat_tests}
use Rattle.litmus_report.proofs.TextLemmas.{replies_end, written_all}
use Rattle.litmus_report.proofs.texts.add_replies.Goals as goal

pub returns-else-at-replies : goal.returns-else-at-replies
returns-else-at-replies g c = written_all _ _ _ c.calls.invariant.written
    (replies_end c.calls.before c.args.calls.now c.args.replies.now c.calls.at (inr (grind (arith, nat_tests, c.if-at-replies.false))))
