use Rattle.coded.proofs.Holdings.{held_legal}
use Rattle.radixvm_c.proofs.Logged.{answers_asked}
use Rattle.radixvm_c.proofs.laws.held_are_legal.Goals as goal

pub returns-clause-legal : goal.returns-clause-legal
returns-clause-legal c = held_legal

pub returns-clause-asked : goal.returns-clause-asked
returns-clause-asked c = answers_asked
