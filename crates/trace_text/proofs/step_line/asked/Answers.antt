use Rattle.std.proofs.Common.{codes, refl}
use Rattle.trace_text.specs.Action.{action_of}
use Rattle.trace_text.specs.Line.{act_of, task_of}
use Rattle.trace_text.specs.declared.action.Action.TheVariants.{Flush, Review, Take}
use Rattle.trace_text.specs.declared.line.Line.TheVariants.{Act}
use Rattle.trace_text.proofs.FrontLemmas.{word_told}
use Rattle.trace_text.proofs.step_line.asked.Goals as goal

pub returns-then-is_take : goal.returns-then-is_take
unfolding task_of act_of action_of
returns-then-is_take c = λ core. word_told (codes "take") c.args.word.now core (Act core Take) refl (c.is_take.ensures c.if-is_take.true)

pub returns-then-is_flush : goal.returns-then-is_flush
unfolding task_of act_of action_of
returns-then-is_flush c = λ core. word_told (codes "flush") c.args.word.now core (Act core Flush) refl (c.is_flush.ensures c.if-is_flush.true)

pub returns-then-is_review : goal.returns-then-is_review
unfolding task_of act_of action_of
returns-then-is_review c = λ core. word_told (codes "review") c.args.word.now core (Act core Review) refl (c.is_review.ensures c.if-is_review.true)
