use Rattle.draw_lines.proofs.bits.ListedSeries.put_at.Goals as goal

pub returns : goal.returns
returns c = rw c.new.ensures at c.put_listed.ensures
