use Rattle.std.proofs.Common.{sym, ◌∙◌}
use Rattle.live_pages.proofs.installing.enter.Goals as goal

pub returns-clause-entry : goal.returns-clause-entry
returns-clause-entry g c = λ t files is. c.enter_page.ensures.entry c.if-not-enter_page.false files (is ∙ sym c.frame_in.ensures)
