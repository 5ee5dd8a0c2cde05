use Rattle.trace_text.proofs.FrontLemmas.{now_printable, now_said}
use Rattle.trace_text.proofs.call_line.read_call.Goals as goal

pub returns-in-Some : goal.returns-in-Some
returns-in-Some c = record {
  said = now_said c.args.bytes.now c.in-Some.begun.1.now c.in-Some.begun.0 c.in_ok-request.request c.in-Some.ensures c.in_ok-request.ensures;
  printable = now_printable c.args.bytes.now c.in-Some.begun.1.now c.in-Some.begun.0 c.in_ok-request.request c.in-Some.ensures c.in_ok-request.ensures;
}
