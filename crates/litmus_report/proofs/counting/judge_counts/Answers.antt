use Rattle.trace_io.specs.Lines.{lines_of}
use Rattle.litmus_report.proofs.CountLemmas.{judged_text, status_judged}
use Rattle.litmus_report.proofs.counting.judge_counts.Goals as goal

pub returns-clause-text : goal.returns-clause-text
returns-clause-text g c = judged_text (lines_of c.args.counts.now) c.args.searched c.new-text.ensures.items c.in_ok-add_counts.ensures c.in_ok-add_judged_end.ensures
    c.as_slice.ensures.value c.in_ok-texts.ensures c.has_counts-counted.ensures c.are_reached.ensures

pub returns-clause-status : goal.returns-clause-status
returns-clause-status g c = status_judged (lines_of c.args.counts.now) c.args.searched.whole c.judged_status-status.ensures c.has_outside-outside.ensures c.as_slice-2.ensures.value
    c.in_ok-texts.ensures c.has_counts-counted.ensures
