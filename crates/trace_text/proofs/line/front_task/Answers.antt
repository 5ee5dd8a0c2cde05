use Rattle.std.proofs.Common.{codes, refl}
use Rattle.trace_text.specs.Line.{task_of}
use Rattle.trace_text.specs.declared.line.Line.TheVariants.{Finish}
use Rattle.trace_text.proofs.FrontLemmas.{word_told}
use Rattle.trace_text.proofs.line.front_task.Goals as goal

pub returns-then-is_finish : goal.returns-then-is_finish
unfolding task_of
returns-then-is_finish c = word_told (codes "finish") c.args.bytes.now c.args.core (Finish c.args.core) refl (c.is_finish.ensures c.if-is_finish.true)
