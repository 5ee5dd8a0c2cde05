use Rattle.core_steps.proofs.engine.Engine.take.Goals as goal

pub returns-in-Clear : goal.returns-in-Clear
returns-in-Clear g c = rw (← c.in-Clear.ensures.asked) c.in-Clear.ensures.acts

pub returns-in-Invalidate : goal.returns-in-Invalidate
returns-in-Invalidate g c = rw (← c.in-Invalidate.ensures.asked) c.in-Invalidate.ensures.acts

pub returns-in-Idle : goal.returns-in-Idle
returns-in-Idle g c = rw (← c.in-Idle.ensures.asked) c.in-Idle.ensures.acts
