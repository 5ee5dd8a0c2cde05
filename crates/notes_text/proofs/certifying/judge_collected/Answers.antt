use Rattle.std.proofs.Common.{◌∙◌}
use Rattle.notes_text.proofs.VerdictLemmas.{judged_asked, sound_asked}
use Rattle.notes_text.proofs.certifying.judge_collected.Goals as goal

pub judge_declared-requires : goal.judge_declared-requires
judge_declared-requires g c = sound_asked _ _ _ _ c.declaration.ensures c.in-Some.is c.requires

pub returns-in-Ok-clause-ok : goal.returns-in-Ok-clause-ok
returns-in-Ok-clause-ok g c = judged_asked _ _ _ _ _ _ _ _ _ _ _ c.declaration.ensures c.in-Some.is (c.notes-notes.ensures.notes ∙ c.items.ensures) c.in-Ok.ensures
