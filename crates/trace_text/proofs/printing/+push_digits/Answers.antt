use Rattle.std.proofs.Common.{length, ◌/◌, arith, ap, ◌∙◌}
use Rattle.std.proofs.lemmas.Str.{encode_ascii}
use Rattle.std.specs.Int.Digits.{digits_of}
use Rattle.trace_text.proofs.PrintingLemmas.{digits_before, digits_more, length_printed}
use Rattle.trace_text.proofs.printing.+push_digits.Goals as goal

pub push_digits-requires : goal.push_digits-requires
push_digits-requires t c =
    let before = digits_before c.args.number c.if-number-gt0.true in
    (omega (arith, c.decreases), omega (arith, before, c.requires))

pub push-requires : goal.push-requires
push-requires t c =
    let before = digits_before c.args.number c.if-number-gt0.true in
    let one = ap length (encode_ascii c.digit_character.result c.digit_character.ensures.ascii) in
    let size = ap length c.push_digits.ensures in
    let both = length_printed c.args.text.now.bytes (digits_of 16 (c.args.number / 16)) in
    (omega arith, omega (arith, before, one, size, both, c.requires))

pub returns-then-number-gt0 : goal.returns-then-number-gt0
returns-then-number-gt0 t c =
    c.push.ensures.ascii c.digit_character.ensures.ascii
    ∙ digits_more c.args.number _ _ _ c.if-number-gt0.true c.push_digits.ensures c.digit_character.ensures.value
