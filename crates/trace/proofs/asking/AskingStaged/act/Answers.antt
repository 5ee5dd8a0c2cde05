use Rattle.trace.proofs.EchoLemmas.{notes_grow}
use Rattle.trace.proofs.asking.AskingStaged.act.Goals as goal

pub returns-in-Ok-clause-seen : goal.returns-in-Ok-clause-seen
returns-in-Ok-clause-seen g c = λ first lines before h. notes_grow _ _ _ _ _ lines before c.note.ensures h
