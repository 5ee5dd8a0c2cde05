use Rattle.std.proofs.Common.{◌≡◌, ◌∙◌, ap, length, rules}
use Rattle.vm_base.specs.Functions.{put}
use Rattle.vm_base.specs.Plain.{page_bytes}
use Rattle.frames.specs.Pages.{all_pages}
use Rattle.frames.proofs.PageLists.{pages-push}
use Rattle.frames.proofs.page_bytes.push.Goals as goal

pub returns-clause-bytes : goal.returns-clause-bytes
returns-clause-bytes g c =
    let pages = c.args.pages.now.items in
    let len : length c.args.pages.now.items ≡ c.args.pages.now.len = search rules in
    ap all_pages c.push_reserved.ensures.items ∙ (pages-push pages c.args.page ∙ ap (λ n. put (all_pages pages) n (page_bytes c.args.page 0)) len)
