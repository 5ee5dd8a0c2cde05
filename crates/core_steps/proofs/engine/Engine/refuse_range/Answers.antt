use Rattle.machine_model.proofs.Words.{◌-◌, World, ap, arith}
use Rattle.core_steps.specs.OnePage.{later}
use Rattle.core_steps.proofs.at_once.RangeAtOnce.{refuses_range, some_slot}
use Rattle.core_steps.proofs.engine.Engine.refuse_range.Goals as goal

pub reply_at_once-requires-clause-events : goal.reply_at_once-requires-clause-events
reply_at_once-requires-clause-events g c =
    let room = c.requires.range.room in let few = some_slot c.requires in omega (arith, room, few)

pub overflow_sub-self : goal.overflow_sub-self
overflow_sub-self g c = some_slot c.requires

pub overflow_add-self : goal.overflow_add-self
overflow_add-self g c =
    let room = c.requires.range.room in
    let few = some_slot c.requires in
    let events = ap (λ (w : World). w.calls.events) c.reply_at_once.ensures in
    omega (arith, room, few, events)

pub returns : goal.returns
returns g c =
    let made = refuses_range c.requires (ap (later (c.args.found.now.slots - 1)) c.reply_at_once.ensures) in
    record { steps = made.0; edges = made.1 }
