use Rattle.state_text.specs.Counts.{queue_line}
use Rattle.state_text.proofs.counts.put_queued.Goals as goal
use Rattle.state_text.proofs.counts.put_queued.Goals.{in-Text, in-Json}

pub returns : goal.returns
unfolding queue_line
returns c =
    let put = rw c.core_word.ensures at rw c.from.ensures at rw c.end_word.ensures at c.put_all.ensures in
    elim c.match-form.branch [
      | in-Text w ↦ rw w.in-Text.is (rw w.in-Text.is at rw w.t-8-is at put)
      | in-Json w ↦ rw w.in-Json.is (rw w.in-Json.is at rw w.t-8-is at put)
    ]
