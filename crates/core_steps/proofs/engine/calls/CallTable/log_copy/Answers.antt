use Rattle.std.proofs.Common.{arith, ◌∙◌}
use Rattle.core_steps.proofs.engine.Lists.{room_kept}
use Rattle.core_steps.proofs.engine.calls.CallTable.log_copy.Goals as goal

pub invariant_of-self : goal.invariant_of-self
invariant_of-self g c =
    let calls = c.args.self.now in
    record {
      numbered = calls.numbered;
      few = calls.few;
      room = c.push_made.ensures.calls ∙ calls.room;
      logged =
          room_kept (g.L.Ledger.entries calls.ledger) _ _ (g.L.Ledger.limit calls.ledger) _ calls.limit calls.logged
          c.push_made.ensures.items (omega (arith, c.push_made.ensures.limit));
    }
