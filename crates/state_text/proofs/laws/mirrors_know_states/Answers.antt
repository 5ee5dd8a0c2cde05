use Rattle.state_text.proofs.Holding.{held_owned}
use Rattle.state_text.proofs.Watched.{opening, text_shown, watched}
use Rattle.state_text.proofs.laws.mirrors_know_states.Goals as goal

pub returns-clause-know : goal.returns-clause-know
returns-clause-know c = watched

pub returns-clause-opening : goal.returns-clause-opening
returns-clause-opening c = opening

pub returns-clause-text : goal.returns-clause-text
returns-clause-text c = text_shown

pub returns-clause-owned : goal.returns-clause-owned
returns-clause-owned c = held_owned
