use Rattle.std.proofs.Common.{◌≡◌, None, drop}
use Rattle.draw_lives.specs.Lives.{last_of}
use Rattle.draw_lives.proofs.drawing.last_of.Given as goal

abbrev pub invariant-lives : goal.invariant-lives
invariant-lives l = last_of l.known (drop l.life-index l.lives) l.row ≡ last_of None l.lives l.row
