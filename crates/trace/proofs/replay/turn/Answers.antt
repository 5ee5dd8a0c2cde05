use Rattle.std.proofs.Common.{inr, refl}
use Rattle.trace_io.proofs.IoLemmas.{reads_some}
use Rattle.trace_io.proofs.LineLemmas.{reads_map}
use Rattle.trace.specs.Turns.{read_fails, unsent, too_long}
use Rattle.trace.proofs.TurnLemmas.{act_fails, line_told, not_read, not_write, text_lost}
use Rattle.trace.proofs.Seeing.{line_seen}
use Rattle.trace.proofs.replay.turn.Goals as goal

pub returns-in-Err-ReadFailed-clause-turns : goal.returns-in-Err-ReadFailed-clause-turns
returns-in-Err-ReadFailed-clause-turns g c =
    let given = c.in-Err-ReadFailed.ensures in
    reads_map _ _ _ _ given.kept (λ xs ys k p. read_fails refl _ given.unbroken (given.few, refl) p given.written)

pub returns-in-Err-WriteFailed-clause-turns : goal.returns-in-Err-WriteFailed-clause-turns
returns-in-Err-WriteFailed-clause-turns g c =
    let given = c.in-Err-WriteFailed.ensures in reads_map _ _ _ _ given.kept (λ xs ys k p. unsent refl given.written)

pub returns-in-Ok-End-clause-turns : goal.returns-in-Ok-End-clause-turns
returns-in-Ok-End-clause-turns g c =
    let given = c.in-Ok-End.ensures in
    let found = rw c.in-Ok-End.field-0-is at given.found in
    reads_map _ _ _ _ found (λ xs ys k p. record { ended = p.0; stage = refl; written = given.written })

pub returns-in-Ok-TooLong-clause-turns : goal.returns-in-Ok-TooLong-clause-turns
returns-in-Ok-TooLong-clause-turns g c =
    let given = c.in-Ok-TooLong.ensures in
    let found = rw c.in-Ok-TooLong.field-0-is at given.found in
    reads_map _ _ _ _ found (λ xs ys k p. too_long refl p.0 given.written)

pub returns-in-Err-clause-turns : goal.returns-in-Err-clause-turns
returns-in-Err-clause-turns g c =
    let given = c.in-Ok-Line.ensures in
    let found = rw c.in-Ok-Line.field-0-is at given.found in
    reads_map _ _ _ _ found (λ xs ys k p. act_fails _ (g.H.Showing.shown c.args.show.now) _ _ _ _ _ _ _ given.written p (given.few, refl)
    c.line-line.ensures c.in-Err.ensures.err)

pub returns-in-Err-clause-told : goal.returns-in-Err-clause-told
returns-in-Err-clause-told g c =
    let fails = c.in-Err.ensures.err in
    record { read = λ e. not_read _ _ _ _ _ fails (cc); write = λ e. not_write _ _ _ _ _ fails (cc); kept = inr c.in-Ok-Line.ensures.ok }

pub write_line-requires : goal.write_line-requires
write_line-requires g c =
    let found = rw c.in-Ok-Line.field-0-is at c.in-Ok-Line.ensures.found in
    reads_some _ _ _ found (λ xs ys p. rw c.line-line.ensures p.short)

pub returns-in-Err-write_line-clause-turns : goal.returns-in-Err-write_line-clause-turns
returns-in-Err-write_line-clause-turns g c =
    let found = rw c.in-Ok-Line.field-0-is at c.in-Ok-Line.ensures.found in
    reads_map _ _ _ _ found (λ xs ys k p. text_lost _ (g.H.Showing.shown c.args.show.now) _ _ _ _ _ _ _ p c.line-line.ensures
    c.in_default.ensures.ok c.in-Ok-Line.ensures.written c.in-Err-write_line.ensures.front)

pub returns-in_default-write_line-clause-turns : goal.returns-in_default-write_line-clause-turns
returns-in_default-write_line-clause-turns g c =
    let found = rw c.in-Ok-Line.field-0-is at c.in-Ok-Line.ensures.found in
    reads_map _ _ _ _ found (λ xs ys k p. line_told (g.H.Showing.shown c.args.show.now) _ _ _ _ _ _ p c.line-line.ensures
    c.in_default.ensures.ok c.in-Ok-Line.ensures.written c.in_default-write_line.ensures.ok)

pub returns-in_default-write_line-clause-seen : goal.returns-in_default-write_line-clause-seen
returns-in_default-write_line-clause-seen g c =
    let found = rw c.in-Ok-Line.field-0-is at c.in-Ok-Line.ensures.found in
    λ e. reads_map _ _ _ _ found (λ xs ys k p. line_seen g.R.Staged.saw (g.H.Showing.shown c.args.show.now) c.args.replayer.now c.act.new.self
    _ _ _ _ _ _ p c.line-line.ensures c.in_default.ensures.ok c.in-Ok-Line.ensures.written c.in_default-write_line.ensures.ok c.in_default.ensures.seen)
