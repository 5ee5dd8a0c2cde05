use Rattle.slot_lock.proofs.Changes.{sound_pages}
use Rattle.core_steps.proofs.rows.Lost.{none_lost}
use Rattle.core_steps.proofs.rows.commit.count_surveyed.Goals as goal

pub returns-else-found : goal.returns-else-found
returns-else-found g c =
    none_lost c.args.core c.args.change (g.M.SlotRead.slots c.args.map.now) c.args.found.now _ (sound_pages c.args.change c.requires.sound).some
    c.requires.survey c.if-found.false
