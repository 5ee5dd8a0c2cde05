use Rattle.std.proofs.Common.{◌≡◌, ◌++◌, [], cond}
use Rattle.core_steps.specs.Machine.{state}
use Rattle.state_seen.specs.PageTexts.{texts_below}
use Rattle.state_text.specs.Counts.{frame_counts}
use Rattle.state_text.proofs.counts.put_frames.Given as goal

abbrev pub invariant-frames : goal.invariant-frames
invariant-frames g l = record {
  written : l.out.items ≡ l.initial.out.items ++ texts_below (λ f. cond ((state l.machine).memory.is_free f) []
      (frame_counts l.form (state l.machine) f)) l.frame;
}
