use Rattle.std.proofs.Common.{◌∙◌, ap, get_or, cond}
use Rattle.mmu.proofs.Clearing.{whole_range}
use Rattle.mmu.proofs.level.erase.Goals as goal

pub returns : goal.returns
returns c = λ q.
    c.pages.invariant.1 q ∙ ap (λ b. cond b 0 (get_or c.args.words.now q 0))
    (whole_range c.args.range c.pages.page q c.pages.auto.page c.pages.invariant.0 c.pages-test.false)
