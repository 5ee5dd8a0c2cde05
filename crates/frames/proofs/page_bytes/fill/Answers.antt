use Rattle.std.proofs.Common.{◌∙◌, ap, rules}
use Rattle.vm_base.specs.Functions.{put}
use Rattle.frames.specs.Pages.{all_pages}
use Rattle.frames.proofs.PageLists.{pages-set}
use Rattle.frames.proofs.page_bytes.fill.Goals as goal

pub returns-clause-bytes : goal.returns-clause-bytes
returns-clause-bytes g c =
    pages-set c.args.pages.now.items c.args.at c.fill_page.new.page (search rules) ∙ ap (put (all_pages c.args.pages.now.items) c.args.at) c.fill_page.ensures
