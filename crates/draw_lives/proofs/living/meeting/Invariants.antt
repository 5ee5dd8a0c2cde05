use Rattle.std.proofs.Common.{◌≡◌, take}
use Rattle.std.specs.List.{filter}
use Rattle.draw_lives.specs.Living.{meets}
use Rattle.draw_lives.proofs.living.meeting.Given as goal

abbrev pub invariant-moments : goal.invariant-moments
invariant-moments l = l.some.items ≡ filter (meets l.pages) (take l.recorded-index l.moments)
