use Rattle.std.proofs.Common.{sym}
use Rattle.frames.specs.Parts.{frame_bytes}
use Rattle.audit.specs.Keeping.{files_kept}
use Rattle.audit.proofs.Served.{invalid_unserved}
use Rattle.audit.proofs.serving.can_access.Goals as goal

pub returns-then-not-is_valid : goal.returns-then-not-is_valid
returns-then-not-is_valid g c = λ frames.
    invalid_unserved (g.M.SlotRead.slots c.args.map.now) (files_kept c.args.objects.now frames) (frame_bytes frames) c.args.page c.args.access
    (g.met.M.SlotMap.is_slot_map c.args.map.now) (sym c.if-not-is_valid.ensures)
