use Rattle.std.proofs.Common.{sym}
use Rattle.live_script.proofs.FaultLemmas.{none_more, some_next}
use Rattle.live_script.proofs.running.first_fault.Goals as goal

pub returns-in-Some : goal.returns-in-Some
returns-in-Some g c = sym (some_next _ _ _ c.lanes-test.true c.lanes.invariant _ c.in-Some.is)

pub lanes-preserved : goal.lanes-preserved
lanes-preserved g c = none_more _ _ _ c.lanes-test.true c.lanes.invariant c.in_default.is
