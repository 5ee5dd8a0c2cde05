use Rattle.frames.proofs.PageLists.{page-with}
use Rattle.frames.proofs.page_bytes.page_with.Goals as goal

pub returns : goal.returns
returns c = page-with c.zero_page-page.result c.args.offset c.args.byte c.zero_page-page.ensures c.requires
