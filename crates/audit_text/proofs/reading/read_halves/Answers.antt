use Rattle.audit_text.proofs.SaidLemmas.{event_none, event_some}
use Rattle.audit_text.proofs.reading.read_halves.Goals as goal

pub returns-clause-some : goal.returns-clause-some
returns-clause-some c = event_some _ _ _ _ c.in_ok-front.ensures.some c.read_event.ensures

pub returns-clause-none : goal.returns-clause-none
returns-clause-none c = event_none _ _ _ _ c.in_ok-front.ensures.some c.read_event.ensures
