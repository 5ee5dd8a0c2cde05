-- The text of an outcome, with its newline.
use Rattle.std.specs.Prelude.{ℕ, List, ◌++◌, codes, decimal}
use Rattle.machine_model.specs.declared.event.Blocker.TheVariants.{Slot, Acks}
use Rattle.machine_model.specs.declared.event.Outcome.{Outcome}
use Rattle.machine_model.specs.declared.event.Outcome.TheVariants.{Stepped, Wait, Idle, Answered, Full}
use Rattle.trace_text.specs.Printing.{acks_text, full_text, idle_text, reply_text, step_text}

abbrev pub outcome_text : Outcome → List ℕ
outcome_text Stepped = step_text
outcome_text (Wait (Slot core)) = codes "wait slot " ++ decimal core ++ codes "\n"
outcome_text (Wait (Acks set)) = acks_text set
outcome_text Idle = idle_text
outcome_text (Answered reply) = reply_text reply
outcome_text Full = full_text
