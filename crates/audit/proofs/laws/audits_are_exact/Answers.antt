use Rattle.audit.proofs.Sequences.{one_map, wrong_none}
use Rattle.audit.proofs.laws.audits_are_exact.Goals as goal

pub returns-clause-one : goal.returns-clause-one
returns-clause-one c = λ any t u v calls h k. one_map any t u v calls h k

pub returns-clause-wrong : goal.returns-clause-wrong
returns-clause-wrong c = λ any t u v calls wrong w h. wrong_none any t u v calls wrong w h
