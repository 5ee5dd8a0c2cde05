use Rattle.std.proofs.lemmas.Slice.Eq.{bytes_eq-Decides}
use Rattle.std.proofs.Common.{sym, ◌∙◌}
use Rattle.state_changes.proofs.Marking.{apart_of, other_lines, passed_same}
use Rattle.state_changes.proofs.marks.pass.Goals as goal

pub returns-then-eq-clause-passes : goal.returns-then-eq-clause-passes
returns-then-eq-clause-passes c = passed_same _ _ _ _ _ _ _ c.front_line.ensures.lines c.front_line-2.ensures.lines
    ((bytes_eq-Decides _ _).0 (sym c.eq.ensures ∙ c.if-eq.true))

pub returns-then-stands_in-clause-passes : goal.returns-then-stands_in-clause-passes
returns-then-stands_in-clause-passes c = c.in_ok-put_come.ensures.passes c.args.old.now
    (other_lines c.args.new.now c.args.old.now _ _ _ _ c.front_line-2.ensures.lines c.front_line.ensures.lines (λ e. apart_of _ _
    (sym c.eq.ensures ∙ c.if-eq.false) (sym e)))

pub returns-clause-passes : goal.returns-clause-passes
returns-clause-passes c = c.in_ok-put_gone.ensures.passes c.args.new.now
    (other_lines c.args.old.now c.args.new.now _ _ _ _ c.front_line.ensures.lines c.front_line-2.ensures.lines (apart_of _ _
    (sym c.eq.ensures ∙ c.if-eq.false)))
