use Rattle.std.proofs.Common.{◌≡◌, ◌+◌, drop}
use Rattle.std.specs.Prelude.{option_map}
use Rattle.litmus_report.specs.Verdicts.{place_of}
use Rattle.litmus_report.proofs.verdict.place_of.Given as goal

-- the address is among those that are left
abbrev pub invariant-loop-at : goal.invariant-loop-at
invariant-loop-at l = option_map (λ k. l.at + k) (place_of (drop l.at l.addrs) l.addr) ≡ place_of l.addrs l.addr
