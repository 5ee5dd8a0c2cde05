use Rattle.std.proofs.Common.{◌≡◌, ◌++◌, [], cond}
use Rattle.core_steps.specs.Machine.{state}
use Rattle.state_seen.specs.PageTexts.{texts_below}
use Rattle.state_text.specs.Counts.{delta_text}
use Rattle.state_text.proofs.counts.put_deltas.Given as goal

abbrev pub invariant-frames : goal.invariant-frames
invariant-frames g l = record {
  written : l.out.items ≡ l.initial.out.items ++ texts_below (λ f. cond ((state l.machine).memory.is_free f) []
      (delta_text l.form l.core f ((state l.machine).memory.counts.delta l.core f))) l.frame;
}
