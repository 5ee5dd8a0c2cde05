use Rattle.std.proofs.Common.{rules}
use Rattle.trace_text.proofs.FileLemmas.{bytes_more, byte_more}
use Rattle.trace_text.proofs.file_line.file_bytes.Goals as goal

pub bytes-preserved : goal.bytes-preserved
bytes-preserved g c = record {
  bytes = bytes_more c.args.seed c.bytes._at _ c.bytes.bytes.items _ c.bytes.byte (search rules) c.bytes.invariant.byte
      c.push_reserved.ensures.items c.bytes.invariant.bytes;
  byte = byte_more c.args.seed c.bytes._at _ c.bytes.byte _ (search rules) c.bytes.invariant.byte (search rules);
  count = search rules;
  room = search rules;
}
