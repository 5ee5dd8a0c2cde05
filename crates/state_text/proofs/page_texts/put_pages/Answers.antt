use Rattle.std.proofs.Common.{ap, ◌∙◌, ◌++◌, ℕ, List}
use Rattle.state_seen.proofs.PageTexts.{listed}
use Rattle.state_text.specs.PageTexts.{used_line}
use Rattle.state_text.proofs.page_texts.put_pages.Goals as goal

pub returns : goal.returns
returns g c = (rw c.entries.ensures.value at c.in_ok-put_entries.ensures)
    ∙ ap (λ (l : List ℕ). c.args.out.now.items ++ l) (listed (used_line c.args.form) 0 c.args.list.now c.entries.ensures.order)
