use Rattle.shared_script.proofs.TaskLemmas.{call_stops, one_did}
use Rattle.shared_script.proofs.tasks.make.Goals as goal

pub returns-in_default-call-clause-stops : goal.returns-in_default-call-clause-stops
returns-in_default-call-clause-stops g c = call_stops g.S.Whole.state _ c.call.new.core c.args.request c.in_default-call.ensures.full

pub returns-clause-did : goal.returns-clause-did
returns-clause-did g c = one_did g.S.Whole.state _ c.call.new.core c.args.request c.in-Some.reply c.in-Some.ensures.replied
