use Rattle.coded.proofs.batch.make.Goals as goal

pub returns-in-Step-clause-makes : goal.returns-in-Step-clause-makes
returns-in-Step-clause-makes g c = rw c.in-Step.is c.step.ensures.makes
