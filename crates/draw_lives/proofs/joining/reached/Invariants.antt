use Rattle.std.proofs.Common.{◌≡◌, map, take}
use Rattle.draw_lives.specs.Joining.{reaching}
use Rattle.draw_lives.proofs.joining.reached.Given as goal

abbrev pub invariant-lives : goal.invariant-lives
invariant-lives l = l.all.items ≡ map (reaching l.row l.end) (take l.life-index l.lives)
