use Rattle.std.proofs.Common.{ap, ◌∙◌, w64, unsigned_abs}
use Rattle.std.proofs.lemmas.Int.{to_z-of_z}
use Rattle.state_text.specs.Counts.{delta_line, sign}
use Rattle.state_text.proofs.counts.put_delta_line.Goals as goal

pub returns-in-Text : goal.returns-in-Text
unfolding delta_line
returns-in-Text c =
    let same = to_z-of_z w64 c.args.delta c.ranges.delta in
    let before = c.sign.ensures ∙ ap sign same in
    let digits = c.unsigned_abs.ensures.value ∙ ap unsigned_abs same in
    rw c.in-Text.is (rw c.from.ensures at rw before at rw digits at c.put_all.ensures)
