use Rattle.std.proofs.Common.{length}
use Rattle.core_text.proofs.lines.+push_numbered.Given as goal

abbrev pub decreases-push_numbered : goal.decreases-push_numbered
decreases-push_numbered g l = length l.numbers.now
