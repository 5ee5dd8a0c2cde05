use Rattle.std.proofs.Common.{◌++◌, ◌∙◌, ap, arith, drop, subst, take}
use Rattle.std.proofs.lemmas.Bool.Decides.{nat_tests}
use Rattle.state_changes.specs.Pages.{all_changed}
use Rattle.trace.specs.Numbered.{texts_of}
use Rattle.state_changes.specs.Marks.{SaysDifference}
use Rattle.state_changes.proofs.Walking.{none_left, texts_more, walk_begins, walk_ends, walk_more}
use Rattle.state_changes.proofs.behind.changes_of.Goals as goal

pub lines-init : goal.lines-init
lines-init c = record {
  walk = walk_begins _ _ _ _ _ (ap texts_of c.new-texts.ensures.items) c.moments-left.ensures
      (c.in_ok-extend_from_slice.ensures.items ∙ ap (λ t. t ++ c.first.result.now) c.new-text.ensures.items ∙ c.first.ensures);
}

pub lines-preserved : goal.lines-preserved
lines-preserved c =
    let said = c.in_ok-difference_text.field-0.items in
    let own = c.split_at.ensures.front ∙ ap (λ k. take k c.lines.left.now) c.span_of.ensures.value in
    let others = c.split_at.ensures.back ∙ ap (λ k. drop k c.lines.left.now) c.span_of.ensures.value in
    let after = c.in_ok-after.ensures ∙ ap (λ t. all_changed t c.split_at.result.0.now) c.as_slice.ensures.value in
    let differs = subst (λ t. SaysDifference said t c.in_ok-after.after.items) c.as_slice-in-lines.ensures.value
    (subst (SaysDifference said c.as_slice-in-lines.result.now) c.as_slice-in-lines-2.ensures.value c.in_ok-difference_text.ensures) in
    record {
      walk = walk_more _ _ _ _ _ _ _ _ _ _ _ _ said (ap texts_of c.in_ok-push.ensures.items ∙ texts_more _ _) c.lines.invariant.walk
          c.front_line.ensures.lines own others after differs;
    }

pub returns : goal.returns
returns c = walk_ends _ _ _ _ _ _ c.lines.invariant.walk (none_left c.lines.rest.now (grind (arith, nat_tests, c.is_empty.ensures, c.lines-test.false)))
