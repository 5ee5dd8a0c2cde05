use Rattle.std.proofs.Common.{◌++◌, ap, ◌∙◌}
use Rattle.std.specs.Prelude.{codes}
use Rattle.draw_steps.proofs.Joined.{grow}
use Rattle.trace_io.specs.Lines.{lines_of}
use Rattle.state_changes.specs.Data.{data_text, field_text, steps_text}
use Rattle.state_changes.proofs.data.put_data.Goals as goal

pub returns : goal.returns
unfolding data_text
returns c =
    let out = c.args.out.now.items in
    let third = c.in_ok-put_field-3.ensures ∙ ap (λ t. c.put_field-2.new.out.items ++ field_text (codes ",\n\"first\":") t) c.first.ensures in
    let last = c.in_ok-put_steps.ensures
    ∙ ap (λ t. c.put_field-3.new.out.items ++ steps_text (codes ",\n\"steps\":[0") (lines_of c.args.trace.now) t (codes "]}")) c.moments.ensures in
    let two = grow out _ _ c.put_field.new.out.items _ c.in_ok-put_field.ensures c.in_ok-put_field-2.ensures in
    let three = grow out _ _ c.put_field-2.new.out.items _ two third in
    grow out _ _ c.put_field-3.new.out.items _ three last
