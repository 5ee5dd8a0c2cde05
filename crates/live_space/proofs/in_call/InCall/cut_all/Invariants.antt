use Rattle.std.proofs.Common.{◌≡◌}
use Rattle.live_tree.specs.Shown.{KeepsPages}
use Rattle.live_space.specs.InFlight.{GoesOn}
use Rattle.live_space.proofs.in_call.InCall.cut_all.Given as goal

abbrev pub invariant-cuts : goal.invariant-cuts
invariant-cuts g l = record {
  goes : GoesOn l.fn.self.seat l.self.seat;
  first : l.self.held.first ≡ l.fn.self.held.first;
  end : l.self.held.end ≡ l.fn.self.held.end;
  pages : KeepsPages l.fn.self.held l.self.held;
}
