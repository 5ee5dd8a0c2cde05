use Rattle.std.proofs.Common.{◌≡◌, ◌<◌, ◌^◌, drop}
use Rattle.trace_text.specs.Number.{value_from}
use Rattle.import_forms.proofs.tokens.read_hexadecimal.Given as goal

-- the rest of the digits goes behind the number
abbrev pub invariant-loop-byte : goal.invariant-loop-byte
invariant-loop-byte l = record { fits : l.number < 2 ^ 64; same : value_from 16 l.number (drop l.byte-index l.digits) ≡ value_from 16 0 l.digits }
