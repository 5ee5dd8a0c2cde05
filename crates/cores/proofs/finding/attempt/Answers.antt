use Rattle.std.proofs.Common.{◌∙◌, List, Ok, [], ◌∷◌, ◌++◌, ap, subst, sym}
use Rattle.std.specs.Prelude.{IfSome}
use Rattle.vm_base.specs.Plain.{nothing_mapped}
use Rattle.frames.specs.Given.{given_files}
use Rattle.audit.specs.Placing.{rule_of}
use Rattle.orders.specs.declared.history.Timed.{Timed}
use Rattle.cores.specs.declared.kept.Kept.{Kept}
use Rattle.cores.specs.Cores.{AreAll, HasNone, IsBase}
use Rattle.cores.specs.Effects.{AreTold}
use Rattle.cores.proofs.Sparing.{shown_but}
use Rattle.cores.proofs.finding.attempt.Goals as goal

pub returns : goal.returns
returns g c =
    let rule = rule_of c.args.any_place in
    let first = nothing_mapped (given_files c.args.files.now) in
    let start = c.in-Some-start_of.start in
    let kept = c.in-Some-gathered.kept.items in
    shown_but c.args.any_place (given_files c.args.files.now) c.args.history.now c.args.effects.now _ c.in_ok-front.front.items c.in-Some.ensures
    c.in-Some-start_of.ensures
    (subst (λ (ks : List Kept). IsBase c.args.pages start c.args.base.built ks) c.as_slice-2.ensures.value (c.is_base.ensures c.if-not-is_base.false))
    (subst (λ o. IfSome o (λ kept. AreAll c.args.history.now c.args.pages c.args.base.number c.in-Some.first c.args.cut kept.items)) c.in-Some-gathered.is
    c.in_ok-gathered.ensures)
    (sym c.took-sure.ensures ∙ c.if-not-sure.false)
    (subst (λ (ks : List Kept). AreTold c.args.effects.now ks) c.as_slice.ensures.value (c.are_told-told.ensures c.if-not-told.false))
    (c.in_ok-front.ensures ∙ ap (λ (xs : List Timed). xs ++ start ∷ []) (c.as_slice-3.ensures.value ∙ c.new-nothing.ensures.items))
    (subst (λ (fs : List Timed). HasNone rule first fs kept) c.as_slice-4.ensures.value
    (subst (λ (ks : List Kept). HasNone rule first c.as_slice-4.result.now ks) c.as_slice-5.ensures.value (c.in_ok-none.ensures (ap Ok c.if-not-none.false))))
