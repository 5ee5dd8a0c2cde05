use Rattle.std.proofs.Common.{◌∙◌}
use Rattle.core_steps.proofs.engine.calls.CallTable.make_room.Goals as goal

pub invariant_of-self : goal.invariant_of-self
invariant_of-self g c =
    let calls = c.args.self.now in
    record {
      numbered = calls.numbered;
      few = calls.few;
      room = c.make_room.ensures.calls ∙ calls.room;
      logged = rw (c.make_room.ensures.items, c.make_room.ensures.limit) calls.logged;
    }
