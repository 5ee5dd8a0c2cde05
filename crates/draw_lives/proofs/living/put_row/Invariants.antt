use Rattle.std.proofs.Common.{◌≡◌, ◌≤◌, ◌-◌, ◌++◌, length, take}
use Rattle.draw_steps.specs.Shapes.{stretches_of}
use Rattle.draw_lives.proofs.living.put_row.Given as goal

abbrev pub invariant-moments : goal.invariant-moments
invariant-moments l = record {
  within : l.at ≤ length l.moments;
  room : length l.lives.items ≤ 2001;
  made : l.lives.items ≡ l.initial.lives.items ++ stretches_of l.moments l.row l.pages (take l.at l.moments);
}

abbrev pub decreases-moments : goal.decreases-moments
decreases-moments l = length l.moments - l.at
