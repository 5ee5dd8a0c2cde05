use Rattle.std.proofs.Common.{ap, ◌∙◌, ◌++◌, ℕ, List}
use Rattle.state_seen.proofs.PageTexts.{listed}
use Rattle.state_text.specs.Texts.{table_line}
use Rattle.state_text.proofs.texts.put_table.Goals as goal

pub returns : goal.returns
returns g c = (rw c.entries.ensures.value at c.in_ok-put_listed.ensures)
    ∙ ap (λ (l : List ℕ). c.args.out.now.items ++ l) (listed (table_line c.args.form c.args.core c.args.inbox.now) 0 c.args.table.now c.entries.ensures.order)
