use Rattle.std.proofs.Common.{arith, ◌∙◌}
use Rattle.trace_text.proofs.NumberLemmas.{value_past}
use Rattle.import_forms.proofs.tokens.read_hexadecimal.Goals as goal

pub returns-in_err-checked_mul : goal.returns-in_err-checked_mul
returns-in_err-checked_mul c =
    c.from_residual-in_err-checked_mul.ensures
    ∙ value_past 16 c.loop-byte.number c.loop-byte.byte-index c.in_ok-value.value c.args.digits.now _ (omega arith) (omega arith) c.in_ok-value.ensures.value
    c.in_ok-value.ensures.small (omega (arith, c.in_err-checked_mul.ensures)) c.loop-byte.invariant.same
