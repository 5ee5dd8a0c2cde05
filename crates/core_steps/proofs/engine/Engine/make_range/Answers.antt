use Rattle.machine_model.proofs.Words.{◌-◌, World, ap, arith}
use Rattle.refcache.specs.Parts.{counts_of}
use Rattle.core_steps.specs.OnePage.{later}
use Rattle.core_steps.specs.Parts.{parts}
use Rattle.core_steps.specs.State.{world}
use Rattle.core_steps.proofs.at_once.ChangeAtOnce.{nothing_left}
use Rattle.core_steps.proofs.at_once.RangeAtOnce.{makes_range, some_slot}
use Rattle.core_steps.proofs.engine.Engine.make_range.Goals as goal

pub shoot_alone-requires-clause-dropped : goal.shoot_alone-requires-clause-dropped
shoot_alone-requires-clause-dropped g c = λ out.
    rw c.range.ensures (nothing_left (world g.M.SlotRead.slots c.args.self.now) c.args.core c.args.shoot c.args.change c.requires.change.range.at.well
    c.requires.change.decides out)

pub reply_at_once-requires-clause-events : goal.reply_at_once-requires-clause-events
reply_at_once-requires-clause-events g c =
    let room = c.requires.change.range.room in let few = some_slot c.requires.change in omega (arith, room, few)

pub overflow_sub-self : goal.overflow_sub-self
overflow_sub-self g c = some_slot c.requires.change

pub overflow_add-self : goal.overflow_add-self
overflow_add-self g c =
    let room = c.requires.change.range.room in
    let few = some_slot c.requires.change in
    let events = ap (λ (w : World). w.calls.events) c.reply_at_once.ensures in
    omega (arith, room, few, events)

pub returns : goal.returns
returns g c =
    let made =
    makes_range c.requires.change c.requires.alone (counts_of c.count_surveyed.new.counts) (parts c.shoot_alone.new.self).hardware _ _ _ _
    c.count_surveyed.ensures c.range.ensures c.shoot_alone.ensures.after c.change_unheld.ensures c.reply_to.ensures
    (ap (later (c.args.found.now.slots - 1)) c.reply_at_once.ensures) in
    record { steps = made.0; edges = made.1 }
