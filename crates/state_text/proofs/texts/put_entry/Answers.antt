use Rattle.state_text.specs.Texts.{entry_line}
use Rattle.state_text.proofs.texts.put_entry.Goals as goal
use Rattle.state_text.proofs.texts.put_entry.Goals.{in-Text, in-Json}

pub returns : goal.returns
unfolding entry_line
returns c =
    let put = rw c.rights_of-rights.ensures at rw c.from-frame.ensures at rw c.going_word-going.ensures at rw c.core_word.ensures at c.put_all.ensures in
    elim c.match-form.branch [
      | in-Text w ↦ rw w.in-Text.is (rw w.in-Text.is at rw w.t-19-is at put)
      | in-Json w ↦ rw w.in-Json.is (rw w.in-Json.is at rw w.t-19-is at put)
    ]
