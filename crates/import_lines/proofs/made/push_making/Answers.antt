use Rattle.std.proofs.Common.{◌≡◌, None, Some, if◌then◌else◌, ap, sym, ◌∙◌, eqb}
use Rattle.import_lines.specs.Made.{maker_of}
use Rattle.import_lines.proofs.MadeLemmas.{maker_push}
use Rattle.import_lines.proofs.made.push_making.Goals as goal

pub invariant_of-made-in-Ok : goal.invariant_of-made-in-Ok
invariant_of-made-in-Ok c = λ q.
    let m = c.args.making in
    let was = c.made.inside.list.items in
    let free : maker_of was m.child ≡ None = ap (λ l. maker_of l m.child) c.made.view_is ∙ c.requires in
    c.in-Ok.ensures.updates.0 q ∙ ap (λ o. if eqb m.child q then Some m else o) (c.made.invariant q)
    ∙ sym (maker_push was m q free) ∙ ap (λ l. maker_of l q) (sym c.in_ok-push.ensures.items)
