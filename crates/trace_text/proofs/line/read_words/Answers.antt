use Rattle.std.proofs.Common.{◌∙◌}
use Rattle.trace_text.proofs.FrontLemmas.{now_some, now_none, told_some}
use Rattle.trace_text.proofs.line.read_words.Goals as goal

pub returns-in_err-request : goal.returns-in_err-request
returns-in_err-request c =
    c.from_residual.ensures ∙ now_none c.args.bytes.now c.in-Some.begun.1.now c.in-Some.begun.0 c.in-Some.ensures c.in_err-request.ensures

pub returns-in-Some : goal.returns-in-Some
returns-in-Some c =
    now_some c.args.bytes.now c.in-Some.begun.1.now c.in-Some.begun.0 c.in_ok-request.request c.in-Some.ensures c.in_ok-request.ensures

pub returns : goal.returns
returns c =
    told_some c.args.bytes.now c.in-Some-front_core.begun.1.now c.in-Some-front_core.begun.0 c.in-Some-front_task.line c.in-Some-front_core.ensures
    c.in-Some-front_task.ensures
