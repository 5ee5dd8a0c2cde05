-- The text of a finished call, with its newline.
use Rattle.std.specs.Prelude.{ℕ, List, codes}
use Rattle.core_steps.specs.declared.machine.Finished.{Finished}
use Rattle.core_steps.specs.declared.machine.Finished.TheVariants.{Last, Stuck}
use Rattle.trace_words.specs.OutcomeText.{outcome_text}

abbrev pub finished_text : Finished → List ℕ
finished_text (Last outcome) = outcome_text outcome
finished_text Stuck = codes "stuck\n"
