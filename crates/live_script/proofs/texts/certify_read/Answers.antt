use Rattle.std.proofs.Common.{refl}
use Rattle.trace_io.proofs.IoLemmas.{keeps_same}
use Rattle.live_script.specs.Texts.{unrun, unwritten}
use Rattle.live_script.proofs.TextLemmas.{verdict_given}
use Rattle.live_script.proofs.texts.certify_read.Goals as goal

pub returns-in-Err-clause-ends : goal.returns-in-Err-clause-ends
returns-in-Err-clause-ends g c = let (fault, fails, is) = c.in-Err.ensures.fault in unrun fault fails is (keeps_same _)

pub returns-in-Err-send_verdict-clause-ends : goal.returns-in-Err-send_verdict-clause-ends
returns-in-Err-send_verdict-clause-ends g c =
    unwritten refl _ _ (verdict_given _ _ _ _ c.in-Ok.judgement c.in-Ok.ensures.judged) c.in-Err-send_verdict.ensures.wrote.front
