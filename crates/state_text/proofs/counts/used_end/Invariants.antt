use Rattle.std.proofs.Common.{◌≡◌, ◌+◌}
use Rattle.core_steps.specs.Machine.{state}
use Rattle.frames.specs.Bits.{count_below}
use Rattle.state_text.proofs.counts.used_end.Given as goal

abbrev pub invariant-frames : goal.invariant-frames
invariant-frames g l = record {
  left : l.free + count_below (state l.machine).memory.is_free l.frame ≡ count_below (state l.machine).memory.is_free (state l.machine).made.frames;
}
