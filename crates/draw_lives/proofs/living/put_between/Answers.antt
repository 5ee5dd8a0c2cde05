use Rattle.std.proofs.Common.{◌≡◌, ◌∙◌, ap, sym, true, false, take, ◌++◌}
use Rattle.draw_steps.specs.Rows.{has_mapped}
use Rattle.draw_steps.specs.Shapes.{stretches_of}
use Rattle.draw_lives.specs.Living.{span_of}
use Rattle.draw_lives.proofs.Lived.{hole_added, one_added}
use Rattle.draw_lives.proofs.living.put_between.Goals as goal

pub returns : goal.returns
returns c =
    let (two, below, room) = c.requires in
    let hole : has_mapped c.args.moments.now (span_of c.args.edges.now).first ≡ false =
    ap (λ p. has_mapped c.args.moments.now p.first) (sym c.span_of-pages.ensures) ∙ (sym c.has_mapped.ensures ∙ c.if-has_mapped.false) in
    hole_added c.args.moments.now c.args.row c.args.edges.now c.args.lives.now.items two hole below room

pub returns-then-has_mapped : goal.returns-then-has_mapped
returns-then-has_mapped c =
    let (two, below, room) = c.requires in
    let old = c.args.lives.now.items in
    let new = c.put_row.new.lives.items in
    let mapped : has_mapped c.args.moments.now (span_of c.args.edges.now).first ≡ true =
    ap (λ p. has_mapped c.args.moments.now p.first) (sym c.span_of-pages.ensures) ∙ (sym c.has_mapped.ensures ∙ c.if-has_mapped.true) in
    let is : new ≡ take 2001 (old ++ stretches_of c.args.moments.now c.args.row (span_of c.args.edges.now) c.args.moments.now) =
    c.in_ok-put_row.ensures ∙ ap (λ p. take 2001 (old ++ stretches_of c.args.moments.now c.args.row p c.args.moments.now)) c.span_of-pages.ensures in
    one_added c.args.moments.now c.args.row c.args.edges.now old new two mapped below room is
