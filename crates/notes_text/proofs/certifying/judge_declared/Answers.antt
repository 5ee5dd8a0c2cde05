use Rattle.notes_text.proofs.certifying.judge_declared.Goals as goal

pub returns-in-Ok-judge : goal.returns-in-Ok-judge
returns-in-Ok-judge g c = c.in-Ok-judge.ensures.ok c.args.declaration.now c.in-Ok-setup.ensures.made
