use Rattle.import_lines.proofs.ToldLemmas.{hears_more}
use Rattle.import_lines.proofs.told.hear_line.Goals as goal

pub returns : goal.returns
returns c = hears_more c.args.lines.now c.args.place c.args.heard.now _ c.in_ok-said.said c.thread-thread.result c.requires.heard c.in_ok-said.ensures
    c.thread-thread.ensures c.in_ok-hear_telling.ensures c.in_ok-hear_start.ensures c.in_ok-note_last.ensures
