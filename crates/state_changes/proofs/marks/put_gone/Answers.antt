use Rattle.state_changes.proofs.Marking.{passed_gone}
use Rattle.state_changes.proofs.marks.put_gone.Goals as goal

pub returns-clause-passes : goal.returns-clause-passes
returns-clause-passes c = λ new apart. passed_gone _ _ _ _ new _ c.front_line.ensures.lines c.in_ok-put_mark.ensures apart
