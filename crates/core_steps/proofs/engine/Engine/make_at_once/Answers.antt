use Rattle.machine_model.proofs.Words.{sym}
use Rattle.core_steps.specs.Parts.{parts}
use Rattle.core_steps.specs.State.{world}
use Rattle.core_steps.proofs.at_once.ChangeAtOnce.{is_counted, makes_at_once, nothing_left}
use Rattle.core_steps.proofs.rows.Known.{change_pages}
use Rattle.core_steps.proofs.engine.Engine.make_at_once.Goals as goal

pub shoot_alone-requires-clause-pages : goal.shoot_alone-requires-clause-pages
shoot_alone-requires-clause-pages g c = rw c.range.ensures (change_pages c.args.change c.requires.change.at.goal)

pub shoot_alone-requires-clause-dropped : goal.shoot_alone-requires-clause-dropped
shoot_alone-requires-clause-dropped g c = λ out. let i = c.requires.change in let w = world g.M.SlotRead.slots c.args.self.now in
    rw c.range.ensures (nothing_left w c.args.core c.args.shoot c.args.change i.at.well (i.decides w.slots (sym i.found.info)) out)

pub count_page-requires-clause-counted : goal.count_page-requires-clause-counted
count_page-requires-clause-counted g c = is_counted c.requires.change

pub returns : goal.returns
returns g c =
    let i = c.requires.change in
    let lost = c.count_page.ensures (g.M.SlotRead.slots c.args.self.now.map).info _ i.found.info in
    let made =
    makes_at_once i c.requires.alone _ (parts c.shoot_alone.new.self).hardware _ _ _ _ lost c.range.ensures c.shoot_alone.ensures.after
    c.change_free.ensures c.reply_to.ensures c.reply_at_once.ensures in
    record { steps = made.0; edges = made.1 }
