use Rattle.std.proofs.Common.{◌≡◌, ◌≤◌, true, length, drop}
use Rattle.trace_text.specs.Halves.{are_clear}
use Rattle.trace_text.proofs.sign.last_sign.Given as goal

-- no sign is among the bytes from here on
abbrev pub invariant-bytes : goal.invariant-bytes
invariant-bytes l = record {
  within : l.at ≤ length l.fn.bytes;
  clear : are_clear (drop l.at l.fn.bytes) ≡ true;
}

abbrev pub decreases-bytes : goal.decreases-bytes
decreases-bytes l = l.at
