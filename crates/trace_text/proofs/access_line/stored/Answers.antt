use Rattle.trace_text.proofs.FrontLemmas.{store_ends}
use Rattle.trace_text.proofs.access_line.stored.Goals as goal

pub returns : goal.returns
returns c =
    store_ends c.args.args.now c.in_ok-addr.rest.now c.in_ok-digits.digits.now c.in_ok-number.rest.now c.in_ok-addr.addr c.in_ok-number.number
    c.in_ok-addr.ensures c.in_ok-digits.ensures c.in_ok-number.ensures c.if-number-gt255.false c.if-not-is_empty.ensures
