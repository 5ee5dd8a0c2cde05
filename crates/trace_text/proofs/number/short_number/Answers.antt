use Rattle.trace_text.proofs.FrontLemmas.{decimal_front, hexadecimal_front}
use Rattle.trace_text.proofs.number.short_number.Goals as goal

pub returns-in-Some : goal.returns-in-Some
returns-in-Some c = hexadecimal_front (λ rest. rest.now) c.ended_value.result c.in-Some.digits.now c.args.bytes.now c.in-Some.ensures c.ended_value.ensures

pub returns-in-None : goal.returns-in-None
returns-in-None c = decimal_front (λ rest. rest.now) c.ended_value-in-None.result c.args.bytes.now c.ended_value-in-None.ensures
