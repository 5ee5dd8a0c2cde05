use Rattle.std.proofs.Common.{◌≡◌, drop, max}
use Rattle.draw_lives.specs.Histories.{last_time}
use Rattle.draw_lives.proofs.histories.last_time.Given as goal

abbrev pub invariant-calls : goal.invariant-calls
invariant-calls l = max l.last (last_time (drop l.call-index l.calls)) ≡ last_time l.calls
