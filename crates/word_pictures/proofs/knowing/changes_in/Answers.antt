use Rattle.trace_io.specs.Lines.{lines_of}
use Rattle.word_pictures.proofs.SayingLemmas.{changes_told_all, wants_replay}
use Rattle.word_pictures.proofs.knowing.changes_in.Goals as goal

pub returns-clause-ok : goal.returns-clause-ok
returns-clause-ok c =
    changes_told_all (lines_of c.args.trace.now) c.in-Ok.recorder c.changes_told-changes.result c.in-Ok.ensures.ok c.changes_told-changes.ensures.ok

pub returns-clause-err : goal.returns-clause-err
returns-clause-err c = wants_replay c.args.trace.now c.changes_told-changes.result c.changes_told-changes.ensures.err
