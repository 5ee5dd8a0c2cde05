use Rattle.std.proofs.Common.{rules}
use Rattle.litmus.proofs.RunLemmas.{none_come, one_more, text_more}
use Rattle.litmus.proofs.running.run_often.Goals as goal

pub runs-init : goal.runs-init
runs-init g c = none_come _ _ _ _ _ _ (search rules)

pub runs-preserved : goal.runs-preserved
runs-preserved g c = one_more _ _ _ _ _ c.runs._run _ _
    (record { replies = c.in_ok-came.came.replies.items; finals = c.in_ok-came.came.finals.items }) c.runs.invariant c.in_ok-came.ensures
    (text_more c.runs.texts.items c.push.new.self.items c.in_ok-text.text _ c.in-Ok.ensures.items c.in_ok-text.ensures)
