use Rattle.std.proofs.Common.{◌+◌, ap, ◌∙◌}
use Rattle.core_steps.proofs.engine.Lists.{room_kept}
use Rattle.core_steps.proofs.engine.Engine.log_reply.Goals as goal

pub invariant_of-self : goal.invariant_of-self
invariant_of-self g c =
    let calls = c.args.self.now.calls in
    let logged = room_kept (g.L.Ledger.entries calls.ledger) _ _ (g.L.Ledger.limit calls.ledger) _ calls.limit calls.logged c.push.ensures.items
    (ap (λ n. n + 1) c.push.ensures.limit) in (
      (
        calls.numbered,
        (
          calls.few,
          (c.push.ensures.calls ∙ calls.room, (logged, tt)),
        ),
      ),
      (c.args.self.now.same_cores, tt),
    )
