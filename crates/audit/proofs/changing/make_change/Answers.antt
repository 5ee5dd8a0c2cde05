use Rattle.audit.specs.Keeping.{none_cached}
use Rattle.audit.proofs.Kept.{kept_same}
use Rattle.audit.proofs.changing.make_change.Goals as goal

pub returns-in_err-hold-clause-kept : goal.returns-in_err-hold-clause-kept
returns-in_err-hold-clause-kept g c = λ cached k. kept_same (g.M.SlotRead.slots c.args.map.now)
    (g.M.SlotRead.slots c.hold.new.map) cached c.args.frames.now c.hold.ensures.info k

pub change_held-requires-clause-kept : goal.change_held-requires-clause-kept
change_held-requires-clause-kept g c = kept_same (g.M.SlotRead.slots c.args.map.now)
    (g.M.SlotRead.slots c.hold.new.map) none_cached c.args.frames.now c.hold.ensures.info c.requires.kept

pub returns-clause-kept : goal.returns-clause-kept
returns-clause-kept g c = λ cached k.
    kept_same (g.M.SlotRead.slots c.change_held.new.map) (g.M.SlotRead.slots c.let_go.new.map) cached c.change_held.new.frames c.let_go.ensures.info
    (c.change_held.ensures.kept cached (kept_same (g.M.SlotRead.slots c.args.map.now)
    (g.M.SlotRead.slots c.hold.new.map) cached c.args.frames.now c.hold.ensures.info k))
