use Rattle.state_changes.proofs.Marking.{passed_come}
use Rattle.state_changes.proofs.marks.put_come.Goals as goal

pub returns-clause-passes : goal.returns-clause-passes
returns-clause-passes c = λ old apart. passed_come _ _ old _ _ _ c.front_line.ensures.lines c.in_ok-put_mark.ensures apart
