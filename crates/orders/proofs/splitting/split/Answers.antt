use Rattle.orders.proofs.PartLemmas.{no_call_more, one_call_more}
use Rattle.orders.proofs.splitting.split.Goals as goal

pub calls-preserved : goal.calls-preserved
calls-preserved g c = one_call_more c.calls.parts.items c.push_parts.new.parts.items _ c.calls.at c.index-history-at.result c.args.history.now c.calls-test.true
    c.index-history-at.is c.in_ok-push_parts.ensures c.calls.invariant

pub returns : goal.returns
returns g c = no_call_more c.calls.parts.items _ c.calls.at c.args.history.now c.calls-test.false c.calls.invariant
