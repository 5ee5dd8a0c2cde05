use Rattle.state_text.specs.Texts.{message_line}
use Rattle.state_text.proofs.texts.put_message.Goals as goal

pub returns-in-Text : goal.returns-in-Text
unfolding message_line
returns-in-Text c = rw c.in-Text.is (rw c.due_word-due.ensures at c.put_all.ensures)

pub returns-in-Json : goal.returns-in-Json
unfolding message_line
returns-in-Json c = rw c.in-Json.is (rw c.due_word-due.ensures at c.put_all-in-Json.ensures)
