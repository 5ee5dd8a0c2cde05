use Rattle.std.proofs.Common.{◌≡◌, ◌≤◌, length, arith, ap, ◌∙◌, sym}
use Rattle.certifier.specs.declared.looks.Look.{Look}
use Rattle.certifier.proofs.Looked.{empty_more, good_more, marked_here}
use Rattle.certifier.proofs.visits.first_marked.Goals as goal
use Rattle.certifier.proofs.visits.first_marked.Goals.{then-looks-at+in_default, else-looks-at}

pub slots-preserved : goal.slots-preserved
slots-preserved g c = elim c.if-looks-at.branch [
  | then-looks-at+in_default w ↦
      empty_more c.args.slots.now c.args.looks.now c.slots.at w.index-slots-at.result c.slots-test.true w.index-slots-at.is w.in_default.ensures.none
      c.slots.invariant
  | else-looks-at w ↦
      good_more c.args.slots.now c.args.looks.now c.slots.at c.index-looks-at.result c.requires c.slots-test.true c.index-looks-at.is
      (ap (λ (x : Look). x.is_bad) c.index-looks-at.is ∙ w.if-looks-at.false) c.slots.invariant
]

pub returns-clause-none : goal.returns-clause-none
returns-clause-none g c = λ k d l page less of. let end = c.slots-test.false in c.slots.invariant k d l page (omega (arith, end, less)) of

pub returns-in-Some-clause-some : goal.returns-in-Some-clause-some
returns-in-Some-clause-some g c =
    marked_here c.args.slots.now c.args.looks.now c.slots.at _ c.index-slots-at.result c.index-looks-at.result c.requires c.slots-test.true c.index-slots-at.is
    c.index-looks-at.is (ap (λ (x : Look). x.is_bad) c.index-looks-at.is ∙ c.if-looks-at.true) c.in-Some.ensures.some c.slots.invariant
