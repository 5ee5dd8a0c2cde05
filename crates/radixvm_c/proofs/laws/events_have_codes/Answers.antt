use Rattle.radixvm_c.proofs.Coded.{event_read, item_read}
use Rattle.radixvm_c.proofs.laws.events_have_codes.Goals as goal

pub returns-clause-events : goal.returns-clause-events
returns-clause-events c = event_read

pub returns-clause-items : goal.returns-clause-items
returns-clause-items c = item_read
