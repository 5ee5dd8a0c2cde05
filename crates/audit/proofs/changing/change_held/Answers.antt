use Rattle.std.proofs.Common.{ap}
use Rattle.slot_lock.specs.Slots.{cleared}
use Rattle.audit.proofs.Kept.{kept_changed, kept_put, kept_same}
use Rattle.audit.proofs.changing.change_held.Goals as goal

pub returns-in-Put-clause-kept : goal.returns-in-Put-clause-kept
returns-in-Put-clause-kept g c = λ cached k.
    kept_put (g.M.SlotRead.slots c.args.map.now) (g.M.SlotRead.slots c.change.new.self) c.in-Put.range c.in-Put.meta cached
    c.forget_bytes.new.frames (ap (λ x. x.info) c.change.ensures) (c.forget_bytes.ensures.kept cached k)

pub returns-in-Clear-clause-kept : goal.returns-in-Clear-clause-kept
returns-in-Clear-clause-kept g c = λ cached k.
    kept_same (cleared (g.M.SlotRead.slots c.args.map.now) c.in-Clear.range) (g.M.SlotRead.slots c.change-in-Clear.new.self) cached
    c.forget_bytes-in-Clear.new.frames (ap (λ x. x.info) c.change-in-Clear.ensures) (c.forget_bytes-in-Clear.ensures.kept cached k)

pub returns-in-Protect-clause-kept : goal.returns-in-Protect-clause-kept
returns-in-Protect-clause-kept g c = λ cached k.
    kept_changed (g.M.SlotRead.slots c.args.map.now) (g.M.SlotRead.slots c.change-in-Protect.new.self) c.args.change cached
    c.args.frames.now (ap (λ x. x.info) c.change-in-Protect.ensures) k
