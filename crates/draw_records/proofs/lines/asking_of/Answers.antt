use Rattle.draw_records.proofs.Asked.{line_asked}
use Rattle.draw_records.proofs.lines.asking_of.Goals as goal

pub lines-preserved : goal.lines-preserved
lines-preserved g c = record {
  made = line_asked c.lines.all.items c.put_asking.new.all.items _ c.lines.number c.saturating_add-number.result c.front_line.result.0.now c.lines.rest.now
      c.front_line.result.1.now c.front_line.ensures.lines c.in_ok-put_asking.ensures c.saturating_add-number.ensures c.lines.invariant.made;
}
