use Rattle.std.proofs.Common.{◌≡◌, ◌++◌, Bool, List, ap, ◌∙◌}
use Rattle.draw_lives.specs.Joining.{joined_rows}
use Rattle.draw_lives.specs.Lives.{are_more, chart_of, chart_text, shown}
use Rattle.draw_lives.specs.declared.drawing.Chart.{Chart}
use Rattle.draw_steps.specs.declared.shapes.Stretch.{Stretch}
use Rattle.draw_lives.proofs.drawing.put_shown.Goals as goal

pub returns : goal.returns
returns c =
    let old = c.args.out.now.items in
    let text = c.args.text.now in
    let lives = joined_rows (shown c.args.lives.now) in
    let is : c.in_ok-joined.joined.items ≡ lives = c.in_ok-joined.ensures ∙ ap joined_rows c.shown.ensures in
    let first : c.as_slice.result.now ≡ lives = c.as_slice.ensures.value ∙ is in
    let second : c.as_slice-2.result.now ≡ lives = c.as_slice-2.ensures.value ∙ is in
    c.in_ok-put_chart.ensures
    ∙ (ap (λ (k : Chart). old ++ chart_text k text c.are_more-more.result c.as_slice-2.result.now) (c.chart_of-chart.ensures ∙ ap (chart_of c.args.steps) first)
    ∙ (ap (λ (more : Bool). old ++ chart_text (chart_of c.args.steps lives) text more c.as_slice-2.result.now) c.are_more-more.ensures
    ∙ ap (λ (ls : List Stretch). old ++ chart_text (chart_of c.args.steps lives) text (are_more c.args.lives.now) ls) second))
