use Rattle.std.proofs.Common.{◌∷◌, arith, ap, sym, ◌∙◌}
use Rattle.trace_io.proofs.TextLemmas.{line_ended, line_last, lines_none}
use Rattle.trace_io.proofs.lines.front_line.Goals as goal

pub returns-in-Some-clause-lines : goal.returns-in-Some-clause-lines
returns-in-Some-clause-lines c =
    let place = c.in-Some.ensures.0 in
    rw (c.split_at.ensures.front, c.split_at-in-Some.ensures.back)
    (line_ended _ _ place.high c.in-Some.ensures.1 (λ k lt t. place.before k (omega arith) lt t))

pub returns-in-None-clause-lines : goal.returns-in-None-clause-lines
returns-in-None-clause-lines c =
    line_last _ c.requires (λ k lt t. c.in-None.ensures k (omega arith) lt t)
    ∙ ap (λ ls. c.args.text.now ∷ ls) (sym (lines_none _ c.nothing_after.ensures))
