use Rattle.std.proofs.Common.{arith}
use Rattle.orders_text.specs.History.{replies_in}
use Rattle.orders_text.proofs.OpenLemmas.{all_added, one_added}
use Rattle.orders_text.proofs.waiting.completed.Goals as goal

pub cores-preserved : goal.cores-preserved
cores-preserved g c = record {
  within = omega (arith, c.cores-test.true);
  same = one_added (replies_in c.args.replies.now) c.cores.calls.items _ _ c.cores.core _ _ c.args.history.now.waiting.items
      (omega (arith, c.cores-test.true, c.requires)) c.index-waits.ensures c.reply_of-reply.ensures c.in_ok-push_open.ensures
      c.cores.invariant.same;
}

pub returns : goal.returns
returns g c = all_added (replies_in c.args.replies.now) c.cores.calls.items _ c.cores.core c.args.history.now.waiting.items
    (omega (arith, c.cores-test.false, c.requires)) c.cores.invariant.same
