use Rattle.state_seen.proofs.Lines.{four}
use Rattle.state_text.proofs.page_texts.put_used.Goals as goal

pub returns : goal.returns
returns c =
    four c.args.out.now.items c.put_page.new.out.items c.put_frame.new.out.items c.put_recorded.new.out.items c.put.new.out.items _ _ _ _
    c.in_ok-put_page.ensures c.in_ok-put_frame.ensures c.in_ok-put_recorded.ensures (rw c.end_word-end.ensures at c.in_ok-put.ensures)
