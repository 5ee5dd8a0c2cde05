use Rattle.std.proofs.Common.{◌≡◌, ◌++◌, map, take}
use Rattle.draw_lives.specs.Joining.{numbered}
use Rattle.draw_lives.proofs.joining.push_row.Given as goal

abbrev pub invariant-lives : goal.invariant-lives
invariant-lives l = l.lives.items ≡ l.initial.lives.items ++ map (numbered l.number) (take l.life-index l.row)
