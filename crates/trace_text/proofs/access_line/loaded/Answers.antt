use Rattle.trace_text.proofs.FrontLemmas.{load_ends}
use Rattle.trace_text.proofs.access_line.loaded.Goals as goal

pub returns-then-is_empty : goal.returns-then-is_empty
returns-then-is_empty c = load_ends c.args.args.now c.in_ok-addr.rest.now c.in_ok-addr.addr c.in_ok-addr.ensures c.if-is_empty.ensures
