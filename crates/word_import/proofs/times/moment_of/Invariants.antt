use Rattle.std.proofs.Common.{◌≡◌}
use Rattle.word_import.specs.Times.{moment_within}
use Rattle.word_import.proofs.times.moment_of.Given as goal

abbrev pub invariant-tokens : goal.invariant-tokens
invariant-tokens l = moment_within l.more l.rest ≡ moment_within 3 l.line

abbrev pub decreases-tokens : goal.decreases-tokens
decreases-tokens l = l.more
