use Rattle.std.proofs.Common.{◌≡◌, ◌≤◌, ◌<◌, [], set, get_or, ◌∙◌, ap, length, rules}
use Rattle.std.proofs.lemmas.List.{get_or_default}
use Rattle.vm_base.specs.Functions.{put}
use Rattle.vm_base.specs.Plain.{page_bytes}
use Rattle.frames.specs.Pages.{all_pages}
use Rattle.frames.proofs.PageLists.{pages-set, page-set}
use Rattle.frames.proofs.page_bytes.set_byte.Goals as goal

pub returns-clause-bytes : goal.returns-clause-bytes
returns-clause-bytes g c =
    let pages = c.args.pages.now.items in
    let page = c.index_mut.result.now in
    let there : c.args.at < length c.args.pages.now.items = search rules in
    let long : 4096 ≤ length c.index_mut.result.now = search rules in
    let is : c.index_mut.result.now ≡ get_or c.args.pages.now.items c.args.at [] = c.index_mut.ensures.value ∙ get_or_default pages c.args.at _ _ there in
    pages-set pages c.args.at (set page c.args.offset c.args.byte) there
    ∙ ap (put (all_pages pages) c.args.at) (page-set page c.args.offset c.args.byte c.requires.offset long
    ∙ ap (λ p. put (page_bytes p 0) c.args.offset c.args.byte) is)
