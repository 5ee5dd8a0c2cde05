use Rattle.std.proofs.Common.{Some, subst}
use Rattle.audit.specs.Storing.{IsStored}
use Rattle.audit.proofs.Concluded.{on_ok_map}
use Rattle.audit.proofs.Stored.{shared_stored}
use Rattle.audit.proofs.storing.store.Goals as goal

pub store_to_file-requires-clause-cached : goal.store_to_file-requires-clause-cached
store_to_file-requires-clause-cached g c = λ n k f e. (c.requires.kept.taken (Some n) k f e).0

pub returns-in-Shared-clause-ok : goal.returns-in-Shared-clause-ok
returns-in-Shared-clause-ok g c = on_ok_map c.store_to_file.result _ _ c.store_to_file.ensures.ok (λ h.
    subst (IsStored (g.M.SlotRead.slots c.args.map.now) c.store_to_file.new.objects c.store_to_file.new.frames)
    (shared_stored (g.M.SlotRead.slots c.args.map.now) c.args.objects.now c.args.frames.now c.args.info c.args.touch c.in-Shared.file c.in-Shared.page
    c.requires.info c.in-Shared.is)
    (h (g.M.SlotRead.slots c.args.map.now) c.requires.kept))
