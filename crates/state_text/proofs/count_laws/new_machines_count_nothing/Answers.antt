use Rattle.state_text.proofs.New.{none_at_first}
use Rattle.state_text.proofs.count_laws.new_machines_count_nothing.Goals as goal

pub returns : goal.returns
returns c = none_at_first
