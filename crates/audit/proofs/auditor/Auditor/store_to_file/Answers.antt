use Rattle.std.proofs.Common.{Some}
use Rattle.audit.proofs.Concluded.{on_ok_map}
use Rattle.audit.proofs.Stored.{kept_by_store}
use Rattle.audit.proofs.auditor.Auditor.store_to_file.Goals as goal

pub store_to_file-requires-clause-cached : goal.store_to_file-requires-clause-cached
store_to_file-requires-clause-cached g c = λ n k f e. (c.args.self.now.kept.taken (Some n) k f e).0

pub invariant_of-self : goal.invariant_of-self
invariant_of-self g c = record {
  kept = kept_by_store c.store_to_file.result (g.M.SlotRead.slots c.args.self.now.map) c.args.self.now.objects c.store_to_file.new.objects
      c.args.self.now.frames c.store_to_file.new.frames c.args.file c.args.page c.args.offset c.args.byte c.store_to_file.ensures.ok
      c.store_to_file.ensures.err_files c.store_to_file.ensures.err_frames c.args.self.now.kept;
  free = c.args.self.now.free;
}

pub returns-clause-ok : goal.returns-clause-ok
returns-clause-ok g c =
    on_ok_map c.store_to_file.result _ _ c.store_to_file.ensures.ok
    (λ h. (h (g.M.SlotRead.slots c.args.self.now.map) c.args.self.now.kept).plain)
