use Rattle.std.proofs.Common.{◌≡◌, length}
use Rattle.core_steps.specs.Machine.{IsLegal}
use Rattle.shared.proofs.Serials.{MadeFirst}
use Rattle.shared.proofs.series.call_each.Given as goal

-- the calls so far were made
abbrev pub invariant-calls : goal.invariant-calls
invariant-calls g l = record {
  made : MadeFirst g.Q.Ask.request g.T.Tell.told (g.S.Whole.state l.initial.machine) l.core l.asks l.at l.initial.told l.told (g.S.Whole.state l.machine);
  same : (g.S.Whole.state l.machine).made ≡ (g.S.Whole.state l.initial.machine).made;
  legal : IsLegal (g.S.Whole.state l.machine);
  room : length l.told ≡ length l.initial.told;
}
