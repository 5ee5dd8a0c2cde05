use Rattle.std.proofs.Common.{ap, ◌++◌, ◌∙◌}
use Rattle.trace_text.proofs.PrintingLemmas.{start_printed}
use Rattle.trace_text.proofs.lists.push_start.Goals as goal

pub returns-then-page-gt0-clause-bytes : goal.returns-then-page-gt0-clause-bytes
returns-then-page-gt0-clause-bytes c =
    let number = c.as_str.ensures.value ∙ c.address_text.ensures in
    start_printed c.args.page c.args.text.now.bytes c.push_str.new.self.bytes c.push_str-then-page-gt0.new.self.bytes c.if-page-gt0.true
    (c.push_str.ensures.bytes ∙ ap (λ t. c.args.text.now.bytes ++ t) number) c.push_str-then-page-gt0.ensures.bytes
