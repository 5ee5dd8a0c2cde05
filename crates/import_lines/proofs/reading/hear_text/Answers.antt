use Rattle.import_lines.proofs.ReadingLemmas.{heard_more}
use Rattle.import_lines.proofs.reading.hear_text.Goals as goal

pub lines-preserved : goal.lines-preserved
lines-preserved g c =
    record { heard = heard_more g.L.Listener.has_heard c.args.listener.now c.lines.listener c.hear.new.self _ _ _ _ c.lines.invariant.heard c.front_line.ensures.lines c.in_ok-hear.ensures }
