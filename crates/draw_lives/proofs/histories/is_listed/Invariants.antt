use Rattle.std.proofs.Common.{◌≡◌, drop}
use Rattle.draw_lives.specs.Histories.{is_listed}
use Rattle.draw_lives.proofs.histories.is_listed.Given as goal

abbrev pub invariant-calls : goal.invariant-calls
invariant-calls l = is_listed l.line (drop l.call-index l.listed) ≡ is_listed l.line l.listed
