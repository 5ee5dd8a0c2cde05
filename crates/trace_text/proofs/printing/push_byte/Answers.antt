use Rattle.std.proofs.Common.{arith}
use Rattle.trace_text.proofs.PrintingLemmas.{one_put, three_put, two_put}
use Rattle.trace_text.proofs.printing.push_byte.Goals as goal

pub returns-then-byte-ge100-clause-bytes : goal.returns-then-byte-ge100-clause-bytes
returns-then-byte-ge100-clause-bytes c =
    three_put c.args.text.now.bytes c.push.new.self.bytes c.push-then-byte-ge100.new.self.bytes c.push-then-byte-ge100-2.new.self.bytes c.args.byte
    c.decimal_character.result c.decimal_character-then-byte-ge100.result c.decimal_character-then-byte-ge100-2.result
    (omega (arith, c.if-byte-ge100.true)) (omega (arith, c.ranges.byte)) c.decimal_character.ensures.value c.decimal_character-then-byte-ge100.ensures.value
    c.decimal_character-then-byte-ge100-2.ensures.value (c.push.ensures.ascii c.decimal_character.ensures.ascii)
    (c.push-then-byte-ge100.ensures.ascii c.decimal_character-then-byte-ge100.ensures.ascii)
    (c.push-then-byte-ge100-2.ensures.ascii c.decimal_character-then-byte-ge100-2.ensures.ascii)

pub returns-then-byte-ge10-clause-bytes : goal.returns-then-byte-ge10-clause-bytes
returns-then-byte-ge10-clause-bytes c =
    two_put c.args.text.now.bytes c.push-then-byte-ge10.new.self.bytes c.push-then-byte-ge10-2.new.self.bytes c.args.byte
    c.decimal_character-then-byte-ge10.result c.decimal_character-then-byte-ge10-2.result
    (omega (arith, c.if-byte-ge10.true)) (omega (arith, c.if-byte-ge100.false)) c.decimal_character-then-byte-ge10.ensures.value
    c.decimal_character-then-byte-ge10-2.ensures.value (c.push-then-byte-ge10.ensures.ascii c.decimal_character-then-byte-ge10.ensures.ascii)
    (c.push-then-byte-ge10-2.ensures.ascii c.decimal_character-then-byte-ge10-2.ensures.ascii)

pub returns-else-byte-ge10-clause-bytes : goal.returns-else-byte-ge10-clause-bytes
returns-else-byte-ge10-clause-bytes c =
    one_put c.args.text.now.bytes c.push-else-byte-ge10.new.self.bytes c.args.byte c.decimal_character-else-byte-ge10.result c.if-byte-ge10.false
    c.decimal_character-else-byte-ge10.ensures.value (c.push-else-byte-ge10.ensures.ascii c.decimal_character-else-byte-ge10.ensures.ascii)
