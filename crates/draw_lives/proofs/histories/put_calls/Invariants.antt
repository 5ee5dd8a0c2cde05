use Rattle.std.proofs.Common.{◌≡◌, ◌≤◌, ◌++◌, ◌-◌, drop, length}
use Rattle.draw_lives.specs.Histories.{calls_text}
use Rattle.draw_lives.proofs.histories.put_calls.Given as goal

abbrev pub invariant-calls : goal.invariant-calls
invariant-calls l = record {
  within : l.at ≤ length l.scene.calls;
  same : l.out.items ++ calls_text l.scene l.at (drop l.at l.scene.calls) ≡ l.initial.out.items ++ calls_text l.scene 0 l.scene.calls;
}

abbrev pub decreases-calls : goal.decreases-calls
decreases-calls l = length l.scene.calls - l.at
