use Rattle.std.proofs.lemmas.Slice.Eq.{bytes_eq-Decides}
use Rattle.std.proofs.Common.{[], sym, subst, ◌∙◌}
use Rattle.state_changes.specs.Marks.{PassesOn, SaysDifference}
use Rattle.state_changes.proofs.Marking.{all_said, apart_of, same_said}
use Rattle.state_changes.proofs.marks.difference_text.Goals as goal

pub returns-then-eq : goal.returns-then-eq
returns-then-eq c = subst (λ t. SaysDifference t c.args.before.now c.args.after.now) (sym c.new-text.ensures.items)
    (same_said _ _ ((bytes_eq-Decides _ _).0 (sym c.eq.ensures ∙ c.if-eq.true)))

pub returns : goal.returns
returns c = all_said _ _ _ (apart_of _ _ (sym c.eq.ensures ∙ c.if-eq.false))
    (subst (λ t. PassesOn t c.put_marks.new.out.items c.args.before.now [] c.args.after.now []) c.new-text.ensures.items c.in_ok-put_marks.ensures)
