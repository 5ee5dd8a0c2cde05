use Rattle.orders.proofs.PartLemmas.{one_page_more, page_is}
use Rattle.orders.proofs.splitting.push_pages.Goals as goal

pub pages-preserved : goal.pages-preserved
pages-preserved g c = one_page_more c.args.of c.args.timed.now c.pages.page c.args.parts.now.items c.pages.parts.items c.push.new.self.items _
    (page_is c.args.of c.args.timed.now c.pages.page _ _ _ c.stretch_of-stretch.ensures.value c.page_call-call.ensures c.is_refused-is_sure.ensures)
    c.pages.invariant c.in_ok-push.ensures.items
