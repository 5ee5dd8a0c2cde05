use Rattle.trace_text.specs.Front.{step_asked}
use Rattle.trace_text.specs.declared.line.Line.TheVariants.{Act}
use Rattle.trace_text.proofs.FrontLemmas.{told_printable, told_said}
use Rattle.trace_text.proofs.step_line.read_step.Goals as goal

pub returns-in-Some : goal.returns-in-Some
returns-in-Some c = record {
  said = told_said c.args.bytes.now c.in-Some.begun.1.now c.in-Some.begun.0 (Act c.in-Some.begun.0 (step_asked c.in_ok-step.step)) c.in-Some.ensures
      (c.in_ok-step.ensures c.in-Some.begun.0);
  printable = told_printable c.args.bytes.now c.in-Some.begun.1.now c.in-Some.begun.0 (Act c.in-Some.begun.0 (step_asked c.in_ok-step.step))
      c.in-Some.ensures (c.in_ok-step.ensures c.in-Some.begun.0);
}
