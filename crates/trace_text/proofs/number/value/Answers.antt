use Rattle.std.proofs.Common.{arith, ◌∙◌}
use Rattle.trace_text.proofs.NumberLemmas.{value_past, value_end}
use Rattle.trace_text.proofs.number.value.Goals as goal

pub returns-in_err-checked_mul : goal.returns-in_err-checked_mul
returns-in_err-checked_mul c =
    c.from_residual-in_err-checked_mul.ensures
    ∙ value_past c.args.base c.loop-c.n c.loop-c.c-index c.in_ok-d.d c.args.digits.now _ (omega arith) (omega arith) c.in_ok-d.ensures (omega arith)
    (omega (arith, c.in_err-checked_mul.ensures)) c.loop-c.invariant.same

pub returns-in_err-n : goal.returns-in_err-n
returns-in_err-n c =
    c.from_residual-in_err-n.ensures
    ∙ value_past c.args.base c.loop-c.n c.loop-c.c-index c.in_ok-d.d c.args.digits.now _ (omega arith) (omega arith) c.in_ok-d.ensures (omega arith)
    (omega (arith, c.in_err-n.ensures, c.in_ok-checked_mul.ensures)) c.loop-c.invariant.same

pub returns : goal.returns
returns c = value_end c.args.base c.loop-c.n c.args.digits.now c.loop-c.c-index _ (omega arith) c.loop-c.invariant.fits c.loop-c.invariant.same
