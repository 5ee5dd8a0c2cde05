use Rattle.trace_io.specs.Lines.{lines_of}
use Rattle.litmus.proofs.LiveLemmas.{told, unrun}
use Rattle.litmus.proofs.telling.tell_live.Goals as goal

pub returns-in-Err-live_counts-clause-err : goal.returns-in-Err-live_counts-clause-err
returns-in-Err-live_counts-clause-err g c = unrun (lines_of c.args.text.now) _ _ c.in-Ok.ensures.ok c.in-Err-live_counts.ensures.err

pub returns-in-Ok-judged-clause-ok : goal.returns-in-Ok-judged-clause-ok
returns-in-Ok-judged-clause-ok g c = told c.args.limit c.args.runs (lines_of c.args.text.now) _ c.in-Ok-outcomes_of.found
    c.in-Ok-live_counts.counts.items c.as_slice.result.now _ _ c.in-Ok.ensures.ok c.in-Ok-outcomes_of.ensures.ok c.in-Ok-live_counts.ensures.ok
    c.as_slice.ensures.value c.in-Ok-judged.ensures.ok
