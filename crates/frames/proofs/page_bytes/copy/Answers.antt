use Rattle.frames.proofs.PageLists.{pages-copied}
use Rattle.frames.proofs.page_bytes.copy.Goals as goal

pub returns-clause-bytes : goal.returns-clause-bytes
returns-clause-bytes g c =
    pages-copied c.args.pages.now.items c.copy_within.new.self.items c.args.from c.args.to c.copy_within.ensures.by_index.0
    c.copy_within.ensures.by_index.1 c.copy_within.ensures.by_index.2
