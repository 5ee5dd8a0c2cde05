use Rattle.std.proofs.Common.{◌≡◌, true, false, refl, ap, Err}
use Rattle.trace_io.proofs.LineLemmas.{reads_map}
use Rattle.trace_words.specs.Turns.{read_fails, too_long}
use Rattle.trace_words.proofs.CollectLemmas.{line_refused, line_advances, not_read}
use Rattle.trace_words.proofs.collecting.turn.Goals as goal

pub returns-in-Err-ReadFailed-clause-turns : goal.returns-in-Err-ReadFailed-clause-turns
returns-in-Err-ReadFailed-clause-turns g c =
    let given = c.in-Err-ReadFailed.ensures in
    reads_map _ _ _ _ given.kept (λ xs ys k p. read_fails refl _ given.unbroken (given.few, refl) p)

pub returns-in-Err-WriteFailed-clause-turns : goal.returns-in-Err-WriteFailed-clause-turns
returns-in-Err-WriteFailed-clause-turns g c = let clash : false ≡ true = (c.in-Err-WriteFailed.ensures.write (ap Err c.in-Err-WriteFailed.field-0-is)).0 in
    absurd (cc)

pub returns-in-Err-WriteFailed-clause-read : goal.returns-in-Err-WriteFailed-clause-read
returns-in-Err-WriteFailed-clause-read g c e = let clash : false ≡ true = (c.in-Err-WriteFailed.ensures.write (ap Err c.in-Err-WriteFailed.field-0-is)).0 in
    absurd (cc)

pub returns-in-Ok-End-clause-turns : goal.returns-in-Ok-End-clause-turns
returns-in-Ok-End-clause-turns g c =
    let found = rw c.in-Ok-End.field-0-is at c.in-Ok-End.ensures.found in
    reads_map _ _ _ _ found (λ xs ys k p. record { ended = p.0; collected = refl })

pub returns-in-Ok-TooLong-clause-turns : goal.returns-in-Ok-TooLong-clause-turns
returns-in-Ok-TooLong-clause-turns g c =
    let found = rw c.in-Ok-TooLong.field-0-is at c.in-Ok-TooLong.ensures.found in
    reads_map _ _ _ _ found (λ xs ys k p. too_long refl p.0)

pub returns-in-Err-clause-turns : goal.returns-in-Err-clause-turns
returns-in-Err-clause-turns g c =
    let given = c.in-Ok-Line.ensures in
    let found = rw c.in-Ok-Line.field-0-is at given.found in
    reads_map _ _ _ _ found (λ xs ys k p. line_refused _ _ _ _ _ _ _ _ _ p (given.few, refl) c.line.ensures c.in-Err.ensures.err)

pub returns-in-Err-clause-read : goal.returns-in-Err-clause-read
returns-in-Err-clause-read g c e = not_read _ _ _ _ _ _ c.in-Err.ensures.err (cc)

pub returns-in_default-clause-turns : goal.returns-in_default-clause-turns
returns-in_default-clause-turns g c =
    let found = rw c.in-Ok-Line.field-0-is at c.in-Ok-Line.ensures.found in
    reads_map _ _ _ _ found (λ xs ys k p. line_advances _ _ _ _ _ _ p c.line.ensures c.in_default.ensures.ok)
