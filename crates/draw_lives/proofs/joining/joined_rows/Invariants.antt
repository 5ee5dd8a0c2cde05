use Rattle.std.proofs.Common.{◌≡◌}
use Rattle.draw_lives.specs.Joining.{first_joined}
use Rattle.draw_lives.proofs.joining.joined_rows.Given as goal

abbrev pub invariant-rows : goal.invariant-rows
invariant-rows l = l.all.items ≡ first_joined l.lives l.at
