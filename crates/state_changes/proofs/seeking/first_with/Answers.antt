use Rattle.std.proofs.Common.{◌+◌, ◌++◌, ◌≡◌, ◌∙◌, [], ap, arith, drop, refl, subst, sym, take}
use Rattle.std.proofs.lemmas.Bool.{false≢true}
use Rattle.std.proofs.lemmas.Bool.Decides.{nat_tests}
use Rattle.state_changes.specs.Pages.{all_changed}
use Rattle.state_changes.specs.Seeking.{HasWords}
use Rattle.state_changes.proofs.FirstText.{seek_begins, seek_ends, seek_on}
use Rattle.state_changes.proofs.Walking.{none_left}
use Rattle.state_changes.proofs.seeking.first_with.Goals as goal
use Rattle.state_changes.proofs.seeking.first_with.Goals.{then-has-via-then-has, then-has-via-else-has+then-is_end}

pub returns-then-has : goal.returns-then-has
returns-then-has c = seek_ends _ _ _ _ _ _ _ c.lines.invariant.seek
    (λ e. subst (HasWords c.args.words.now) c.as_slice.ensures.value (c.has_words-has.ensures.0 e))
    (λ e. (
      elim c.then-has.branch [
        | then-has-via-then-has w ↦ absurd (false≢true (sym e ∙ w.if-has.true))
        | then-has-via-else-has+then-is_end w ↦ none_left c.lines.rest.now (grind (arith, nat_tests, c.is_empty-is_end.ensures, w.if-is_end.true))
      ],
      λ has. false≢true (sym e ∙ c.has_words-has.ensures.1 (subst (HasWords c.args.words.now) (sym c.as_slice.ensures.value) has)),
    ))

pub lines-preserved : goal.lines-preserved
lines-preserved c =
    let lacks : ¬ HasWords c.args.words.now c.lines.text.items = λ has. false≢true (sym c.if-has.false ∙ c.has_words-has.ensures.1 (subst (HasWords c.args.words.now) (sym c.as_slice.ensures.value) has)) in
    let own = c.split_at.ensures.front ∙ ap (λ k. take k c.lines.left.now) c.span_of.ensures.value in
    let others = c.split_at.ensures.back ∙ ap (λ k. drop k c.lines.left.now) c.span_of.ensures.value in
    let after = c.in_ok-text.ensures ∙ ap (λ t. all_changed t c.split_at.result.0.now) c.as_slice-in-lines.ensures.value in
    record {
      seek = seek_on _ _ _ _ _ _ _ _ _ _ _ _ _ _ c.lines.invariant.seek lacks refl c.front_line.ensures.lines own others after;
      fits = omega (arith, c.lines.invariant.fits, c.front_line.ensures.less);
    }
