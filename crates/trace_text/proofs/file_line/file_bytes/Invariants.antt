use Rattle.std.proofs.Common.{◌≡◌, ◌≤◌, ◌+◌, ◌%◌, map}
use Rattle.std.specs.Prelude.{vec_len, vec_capacity}
use Rattle.std.specs.List.{range_with_len}
use Rattle.trace_text.proofs.file_line.file_bytes.Given as goal

-- the bytes so far, and room for the others
abbrev pub invariant-bytes : goal.invariant-bytes
invariant-bytes g l = record {
  bytes : l.bytes.items ≡ map (λ i. (l.fn.seed + i) % 256) (range_with_len 0 l._at);
  byte : l.byte ≡ (l.fn.seed + l._at) % 256;
  count : vec_len l.bytes ≡ l._at;
  room : l.fn.len ≤ vec_capacity l.bytes;
}
