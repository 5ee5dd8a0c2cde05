use Rattle.trace_text.specs.Front.{access_asked}
use Rattle.trace_text.proofs.FrontLemmas.{now_printable, now_said}
use Rattle.trace_text.proofs.access_line.read_access.Goals as goal

pub returns-in-Some : goal.returns-in-Some
returns-in-Some c = record {
  said = now_said c.args.bytes.now c.in-Some.begun.1.now c.in-Some.begun.0 (access_asked c.in_ok-access.access) c.in-Some.ensures c.in_ok-access.ensures;
  printable = now_printable c.args.bytes.now c.in-Some.begun.1.now c.in-Some.begun.0 (access_asked c.in_ok-access.access) c.in-Some.ensures
      c.in_ok-access.ensures;
}
