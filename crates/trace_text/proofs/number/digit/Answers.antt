use Rattle.std.proofs.Common.{◌≡◌, ◌<◌, ◌≤◌, Some, get_or, ap, ◌∙◌, arith}
use Rattle.std.proofs.lemmas.Bool.Decides.{nat_tests}
use Rattle.trace_text.proofs.DigitTable.{digit_read, digit_refused}
use Rattle.trace_text.specs.declared.number.TheConstants.{DIGITS}
use Rattle.trace_text.proofs.number.digit.Goals as goal

pub returns-then-value-lt16 : goal.returns-then-value-lt16
returns-then-value-lt16 c =
    let low : get_or DIGITS c.args.c 0 < 16 = grind (arith, nat_tests, c.if-value-lt16.true) in
    let is : c.from-then-value-lt16.result ≡ get_or DIGITS c.from.result 0 = c.from-then-value-lt16.ensures in
    ap Some (is ∙ ap (λ i. get_or DIGITS i 0) c.from.ensures) ∙ digit_read c.args.c (omega (arith, c.ranges.c.fits)) low

pub returns-else-value-lt16 : goal.returns-else-value-lt16
returns-else-value-lt16 c =
    let high : 16 ≤ get_or DIGITS c.args.c 0 = grind (arith, nat_tests, c.if-value-lt16.false) in
    digit_refused c.args.c (omega (arith, c.ranges.c.fits)) high
