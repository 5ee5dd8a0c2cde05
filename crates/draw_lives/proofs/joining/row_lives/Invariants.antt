use Rattle.std.proofs.Common.{◌≡◌, take}
use Rattle.std.specs.List.{filter}
use Rattle.draw_lives.specs.Joining.{is_of}
use Rattle.draw_lives.proofs.joining.row_lives.Given as goal

abbrev pub invariant-lives : goal.invariant-lives
invariant-lives l = l.some.items ≡ filter (is_of l.row) (take l.life-index l.lives)
