use Rattle.std.proofs.Common.{◌≡◌, drop}
use Rattle.trace_text.specs.Request.{flags_from, no_flags}
use Rattle.trace_text.proofs.request.read_flags.Given as goal

abbrev pub invariant-loop-letter : goal.invariant-loop-letter
invariant-loop-letter l = flags_from l.flags (drop l.letter-index l.word) ≡ flags_from no_flags l.word
