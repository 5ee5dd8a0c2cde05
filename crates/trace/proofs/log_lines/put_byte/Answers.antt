use Rattle.std.proofs.Common.{take, ◌++◌, arith, sym, ap, ◌∙◌}
use Rattle.std.proofs.lemmas.Fmt.{decimal_digit}
use Rattle.trace_text.proofs.PrintingLemmas.{hundreds, tens}
use Rattle.trace.proofs.log_lines.put_byte.Goals as goal

pub returns-then-byte-ge100-clause-text : goal.returns-then-byte-ge100-clause-text
returns-then-byte-ge100-clause-text c =
    c.put.ensures.text
    ∙ ap (λ l. take c.args.at c.args.bytes.now ++ l) (sym (hundreds c.args.byte (omega (arith, c.if-byte-ge100.true)) (omega (arith, c.ranges.byte))))

pub returns-then-byte-ge10-clause-text : goal.returns-then-byte-ge10-clause-text
returns-then-byte-ge10-clause-text c =
    c.put-then-byte-ge10.ensures.text
    ∙ ap (λ l. take c.args.at c.args.bytes.now ++ l) (sym (tens c.args.byte (omega (arith, c.if-byte-ge10.true)) (omega (arith, c.if-byte-ge100.false))))

pub returns-else-byte-ge10-clause-text : goal.returns-else-byte-ge10-clause-text
returns-else-byte-ge10-clause-text c =
    c.put-else-byte-ge10.ensures.text ∙ ap (λ l. take c.args.at c.args.bytes.now ++ l) (sym (decimal_digit c.args.byte (omega (arith, c.if-byte-ge10.false))))
