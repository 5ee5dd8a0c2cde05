use Rattle.core_steps.proofs.rows.filling.set_frame.Goals as goal

pub page-requires : goal.page-requires
page-requires g c = g.met.M.SlotMap.reads_all c.args.map.now c.args.page c.requires.valid
