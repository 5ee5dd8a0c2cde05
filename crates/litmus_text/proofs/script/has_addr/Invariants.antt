use Rattle.std.proofs.Common.{◌≡◌, drop}
use Rattle.std.specs.Prelude.{◌==◌}
use Rattle.std.specs.List.{list_any}
use Rattle.litmus_text.proofs.script.has_addr.Given as goal

-- it isn't among those so far
abbrev pub invariant-loop-other : goal.invariant-loop-other
invariant-loop-other l = list_any (λ a. a == l.addr) (drop l.other-index l.addrs) ≡ list_any (λ a. a == l.addr) l.addrs
