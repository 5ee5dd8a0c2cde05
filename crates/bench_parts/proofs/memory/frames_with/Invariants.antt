use Rattle.std.proofs.Common.{◌≡◌}
use Rattle.bench_parts.proofs.memory.frames_with.Given as goal

abbrev pub invariant-all : goal.invariant-all
invariant-all l = (l.frames.count ≡ 1024)
