use Rattle.std.proofs.Common.{◌∙◌, subst, sym}
use Rattle.vm_base.specs.Plain.{Plain}
use Rattle.loose_orders.specs.Kept.{HasReplaced}
use Rattle.loose_orders.proofs.keeping.note.Goals as goal

pub uses-preserved : goal.uses-preserved
uses-preserved g c = record {
  plain = c.in_ok-note_one.ensures.plain ∙ c.uses.invariant.plain;
  any_place = c.in_ok-note_one.ensures.any_place ∙ c.uses.invariant.any_place;
  kept = λ old has all. c.in_ok-note_one.ensures.kept old
      (subst (λ (t : Plain). HasReplaced old c.args.history.now c.args.call t) (sym c.uses.invariant.plain) has) (c.uses.invariant.kept old has all);
}

pub returns-in_err-note_one-clause-kept : goal.returns-in_err-note_one-clause-kept
returns-in_err-note_one-clause-kept g c = λ old has all. c.in_err-note_one.ensures.kept old
    (subst (λ (t : Plain). HasReplaced old c.args.history.now c.args.call t) (sym c.uses.invariant.plain) has) (c.uses.invariant.kept old has all)
