use Rattle.std.proofs.Common.{◌≡◌, drop}
use Rattle.draw_lives.specs.Histories.{first_time, least_of}
use Rattle.draw_lives.proofs.histories.first_time.Given as goal

abbrev pub invariant-calls : goal.invariant-calls
invariant-calls l = least_of l.first (drop l.call-index l.calls) ≡ first_time l.calls
