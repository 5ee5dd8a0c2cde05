use Rattle.std.proofs.Common.{◌≡◌, ◌≤◌, ◌-◌, ◌==◌, drop, length}
use Rattle.std.specs.List.{list_any}
use Rattle.state_changes.proofs.knowing.is_among.Given as goal

abbrev pub invariant-frames : goal.invariant-frames
invariant-frames l = record {
  within : l.at ≤ length l.frames;
  same : list_any (λ f. f == l.frame) (drop l.at l.frames) ≡ list_any (λ f. f == l.frame) l.frames;
}

abbrev pub decreases-frames : goal.decreases-frames
decreases-frames l = length l.frames - l.at
