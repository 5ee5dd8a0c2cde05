use Rattle.std.proofs.Common.{◌≡◌, ◌<◌, ◌^◌, drop}
use Rattle.trace_text.specs.Number.{value_from}
use Rattle.trace_text.proofs.number.value.Given as goal

-- the rest of the digits goes behind n
abbrev pub invariant-loop-c : goal.invariant-loop-c
invariant-loop-c l = record { fits : l.n < 2 ^ 64; same : value_from l.base l.n (drop l.c-index l.digits) ≡ value_from l.base 0 l.digits }
