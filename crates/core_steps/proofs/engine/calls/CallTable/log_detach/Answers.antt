use Rattle.std.proofs.Common.{refl, ◌∙◌}
use Rattle.core_steps.proofs.engine.Lists.{room_kept_either}
use Rattle.core_steps.proofs.engine.calls.CallTable.log_detach.Goals as goal

pub invariant_of-self : goal.invariant_of-self
invariant_of-self g c =
    let calls = c.args.self.now in
    record {
      numbered = calls.numbered;
      few = calls.few;
      room = c.push_beyond.ensures.calls ∙ calls.room;
      logged =
          room_kept_either c.push_beyond.result (g.L.Ledger.entries calls.ledger) _ _ (g.L.Ledger.limit calls.ledger) _
          calls.limit refl calls.logged c.push_beyond.ensures.items c.push_beyond.ensures.limit
          c.push_beyond.ensures.same_items c.push_beyond.ensures.same_limit;
    }
