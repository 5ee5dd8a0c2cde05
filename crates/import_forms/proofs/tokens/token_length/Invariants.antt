use Rattle.std.proofs.Common.{◌≡◌, ◌≤◌, ◌-◌, ◌++◌, length, drop, take}
use Rattle.import_forms.specs.Tokens.{up_to_gap, from_gap}
use Rattle.import_forms.proofs.tokens.token_length.Given as goal

abbrev pub invariant-bytes : goal.invariant-bytes
invariant-bytes l = record {
  within : l.count ≤ length l.bytes;
  token : take l.count l.bytes ++ up_to_gap (drop l.count l.bytes) ≡ up_to_gap l.bytes;
  rest : from_gap (drop l.count l.bytes) ≡ from_gap l.bytes;
}

abbrev pub decreases-bytes : goal.decreases-bytes
decreases-bytes l = length l.bytes - l.count
