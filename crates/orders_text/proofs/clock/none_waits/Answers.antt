use Rattle.std.proofs.Common.{rules}
use Rattle.audit_text.proofs.HeardLemmas.{one_waiting}
use Rattle.orders_text.proofs.clock.none_waits.Goals as goal

pub cores-preserved : goal.cores-preserved
cores-preserved g c = record {
  waiting = one_waiting c.cores._core _ c.cores.waiting.items _ (search rules) c.push_reserved.ensures.items c.cores.invariant.waiting;
  count = search rules;
  room = search rules;
}
