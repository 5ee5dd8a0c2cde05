use Rattle.std.proofs.Common.{Some, inl}
use Rattle.std.proofs.KnownBytes.{Keeps-refl}
use Rattle.word_pictures.proofs.LiningLemmas.{lines_drawn, lines_unseen}
use Rattle.word_pictures.proofs.lining.draw_lines.Goals as goal

pub returns-in-Ok-record-clause-ends : goal.returns-in-Ok-record-clause-ends
returns-in-Ok-record-clause-ends g c =
    lines_drawn c.args.lines c.args.trace.now c.front_of-front.result.now _ _ c.in-Ok.recorder c.in-Ok-record.recorder c.lacking_from-lacking.result
    c.write_lines.result c.front_of-front.ensures c.lacking_from-lacking.ensures c.in-Ok.ensures c.in-Ok-record.ensures.ends
    c.write_lines.ensures.ok c.write_lines.ensures.err

pub returns-in-Err-clause-ends : goal.returns-in-Err-clause-ends
returns-in-Err-clause-ends g c =
    inl (lines_unseen (Some c.args.lines.last) c.args.trace.now c.front_of-front.result.now _ c.front_of-front.ensures c.in-Err.ensures.ends, Keeps-refl _)
