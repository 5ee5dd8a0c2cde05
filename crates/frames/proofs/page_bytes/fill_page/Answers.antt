use Rattle.std.proofs.Common.{◌∙◌}
use Rattle.frames.proofs.PageLists.{page-filled}
use Rattle.frames.proofs.page_bytes.fill_page.Goals as goal

pub returns : goal.returns
returns c = page-filled c.zero_rest.new.page c.args.from.now c.requires.short (λ i lt. c.zero_rest.ensures.front i lt
    ∙ c.copy_front.ensures i lt) c.zero_rest.ensures.rest
