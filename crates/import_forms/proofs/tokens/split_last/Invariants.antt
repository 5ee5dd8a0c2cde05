use Rattle.std.proofs.Common.{◌≡◌, ◌≤◌, None, length, drop}
use Rattle.import_forms.specs.Tokens.{split_at_last}
use Rattle.import_forms.proofs.tokens.split_last.Given as goal

abbrev pub invariant-bytes : goal.invariant-bytes
invariant-bytes l = record { within : l.end ≤ length l.bytes; none : split_at_last l.mark (drop l.end l.bytes) ≡ None }

abbrev pub decreases-bytes : goal.decreases-bytes
decreases-bytes l = l.end
