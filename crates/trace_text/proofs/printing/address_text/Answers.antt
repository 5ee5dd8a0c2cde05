use Rattle.std.proofs.Common.{length, arith, ap}
use Rattle.trace_text.proofs.PrintingLemmas.{address_digits}
use Rattle.trace_text.proofs.printing.address_text.Goals as goal

pub push_digits-requires : goal.push_digits-requires
push_digits-requires c =
    let few = address_digits c.args.address (omega arith) in
    let empty = ap length c.new-text.ensures in
    omega (arith, few, empty, c.push_str.ensures.len)
