use Rattle.slot_lock.proofs.Words.{sym, ◌∙◌, ap, Option, PageInfo, is_read_only}
use Rattle.frames.specs.Files.{files_of}
use Rattle.vm_calls.specs.Decisions.{entry_of}
use Rattle.vm_calls.proofs.Steps.{passed-slot}
use Rattle.vm_calls.proofs.decision.has_read_only.Goals as goal

pub slots-preserved : goal.slots-preserved
slots-preserved g c =
    let files = files_of c.args.objects.now in
    passed-slot (λ p. g.M.SlotRead.reads c.args.map.now p) files (g.M.SlotRead.slots c.args.map.now) c.args.range c.requires.readable
    c.slot-slot.result c.slots.page c.slot-slot.ensures.slot c.slot-slot.ensures.has
    (ap (λ (o : Option PageInfo). is_read_only files (entry_of o)) (sym c.page.ensures) ∙ sym (c.if-is_read_only.ensures {u = tt})) c.slots.invariant
