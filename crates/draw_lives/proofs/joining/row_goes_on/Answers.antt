use Rattle.std.proofs.Common.{◌≤◌, inl, inr, arith, length, sym, ◌∙◌}
use Rattle.draw_lives.proofs.JoinedRows.{rows_end}
use Rattle.draw_lives.proofs.joining.row_goes_on.Goals as goal
use Rattle.draw_lives.proofs.joining.row_goes_on.Goals.{then-lives-test+else-at-below, else-lives-test}

pub returns : goal.returns
returns c = elim c.lives-test.branch [
  | then-lives-test+else-at-below w ↦
      let past : length c.args.below.now ≤ c.lives.at = omega (arith, w.if-at-below.false) in
      sym (rows_end c.args.above.now c.args.below.now c.lives.at (inr past) c.lives.invariant.above c.lives.invariant.below) ∙ c.lives.invariant.same
  | else-lives-test w ↦
      let past : length c.args.above.now ≤ c.lives.at = omega (arith, w.lives-test.false) in
      sym (rows_end c.args.above.now c.args.below.now c.lives.at (inl past) c.lives.invariant.above c.lives.invariant.below) ∙ c.lives.invariant.same
]
