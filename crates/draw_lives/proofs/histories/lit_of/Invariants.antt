use Rattle.std.proofs.Common.{◌≡◌, ◌+◌, ◌≤◌, drop}
use Rattle.draw_lives.specs.Histories.{lit_of}
use Rattle.draw_lives.proofs.histories.lit_of.Given as goal

abbrev pub invariant-calls : goal.invariant-calls
invariant-calls l = record {
  within : l.count ≤ l.call-index;
  same : l.count + lit_of l.listed l.core (drop l.call-index l.calls) ≡ lit_of l.listed l.core l.calls;
}
