use Rattle.std.proofs.Common.{◌≡◌, length}
use Rattle.word_pictures.specs.Notes.{behind_digits}
use Rattle.word_pictures.proofs.traced.behind_digits.Given as goal

abbrev pub invariant-digits : goal.invariant-digits
invariant-digits l = behind_digits l.rest ≡ behind_digits l.text

abbrev pub decreases-digits : goal.decreases-digits
decreases-digits l = length l.rest
