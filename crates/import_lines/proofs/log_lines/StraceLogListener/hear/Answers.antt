use Rattle.std.proofs.Common.{◌++◌, sym, ap, ◌∙◌}
use Rattle.std.proofs.lemmas.Result.{on_ok_weaker}
use Rattle.import_lines.proofs.UnreadLemmas.{none_left}
use Rattle.import_lines.proofs.log_lines.StraceLogListener.hear.Goals as goal

pub returns-then-is_empty : goal.returns-then-is_empty
returns-then-is_empty c =
    let empty = sym c.as_slice.ensures.value ∙ none_left c.as_slice.result.now c.is_empty.result c.is_empty.ensures c.if-is_empty.true in
    on_ok_weaker c.hear_whole.result (λ d lines h. d lines c.args.self.now.broken.items h (ap (λ b. b ++ c.args.line.now) (sym empty))) c.hear_whole.ensures

pub returns : goal.returns
returns c =
    let whole = c.as_slice-3.ensures.value ∙ c.in_ok-extend_from_slice-2.ensures.items
    ∙ ap (λ l. l ++ c.args.line.now) (c.in_ok-extend_from_slice.ensures.items ∙ ap (λ l. l ++ c.as_slice-2.result.now) c.new-whole.ensures.items
    ∙ c.as_slice-2.ensures.value) in
    on_ok_weaker c.hear_whole-2.result (λ d lines h. d lines c.args.self.now.broken.items h whole) c.hear_whole-2.ensures
