use Rattle.std.proofs.Common.{arith}
use Rattle.litmus_outcomes.proofs.Dues.{dues_end, dues_more}
use Rattle.litmus_outcomes.proofs.performing.dues_of.Goals as goal

pub calls-preserved : goal.calls-preserved
calls-preserved g c =
    let both = c.requires in
    let lt = c.calls-test.true in
    dues_more c.args.calls.now c.args.replies.now c.calls.k c.index-calls-k.result c.reply_at-reply.result c.calls.dues.items c.push.new.self.items _
    c.calls-test.true (omega (arith, lt, both)) c.index-calls-k.is c.reply_at-reply.ensures c.in_ok-push.ensures.items c.calls.invariant

pub returns : goal.returns
returns g c = dues_end c.args.calls.now c.args.replies.now c.calls.k c.calls.dues.items _ c.calls-test.false c.calls.invariant
