use Rattle.std.proofs.Common.{◌++◌, ap, ◌∙◌}
use Rattle.import_lines.proofs.ReadingLemmas.{more_heard}
use Rattle.import_lines.proofs.reading.hear_more.Goals as goal

pub returns : goal.returns
returns g c =
    let held = c.args.held.now.items in
    more_heard g.L.Listener.has_heard c.args.listener.now c.hear_text.new.listener held c.args.bytes.now c.as_slice.result.now _ c.last_break-end.result
    c.last_break-end.ensures c.if-end-eq0.false
    (c.as_slice.ensures.value ∙ c.in_ok-extend_from_slice-2.ensures.items ∙ ap (λ f. held ++ f) c.split_at.ensures.front)
    (c.in_ok-extend_from_slice-3.ensures.items ∙ ap (λ l. l ++ c.split_at.result.1.now) c.clear.ensures.items ∙ c.split_at.ensures.back)
    c.in_ok-hear_text.ensures
