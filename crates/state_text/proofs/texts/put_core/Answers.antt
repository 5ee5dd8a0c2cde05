use Rattle.std.specs.List.{flat_map}
use Rattle.state_seen.specs.Lists.{at_page}
use Rattle.state_seen.specs.PageTexts.{pages_text}
use Rattle.state_text.specs.Texts.{message_line, table_line, tlb_line, work_text}
use Rattle.state_seen.proofs.Lines.{four}
use Rattle.state_text.proofs.texts.put_core.Goals as goal

pub returns : goal.returns
returns g c =
    four c.args.out.now.items c.put_work.new.out.items c.put_tlb.new.out.items c.put_table.new.out.items c.put_inbox.new.out.items
    (work_text c.args.form c.args.core c.args.phase.now) (flat_map (tlb_line c.args.form c.args.core c.args.held.now.inbox) c.args.held.now.tlb)
    (pages_text (table_line c.args.form c.args.core c.args.held.now.inbox) (at_page c.args.table.now)) (flat_map (message_line c.args.form c.args.core) c.args.held.now.inbox)
    c.in_ok-put_work.ensures c.in_ok-put_tlb.ensures (rw c.inbox.ensures at c.in_ok-put_table.ensures)
    (rw c.inbox-2.ensures at c.in_ok-put_inbox.ensures)
