use Rattle.frames.specs.Given.{given_files}
use Rattle.audit.proofs.Changed.{new_kept, new_plain}
use Rattle.audit.proofs.auditor.Auditor.new.Goals as goal

pub invariant_of-result : goal.invariant_of-result
invariant_of-result g c = record {
  kept = new_kept (g.M.SlotRead.slots c.args.map) c.in_ok-objects.objects c.in_ok-frames.frames c.requires.new c.in_ok-objects.ensures.cached;
  free = c.requires.new.free;
}

pub returns-clause-plain : goal.returns-clause-plain
returns-clause-plain g c =
    new_plain (g.M.SlotRead.slots c.args.map) c.in_ok-objects.objects c.in_ok-frames.frames (given_files c.args.files.items) c.requires.new
    c.in_ok-objects.ensures.cached c.in_ok-objects.ensures.files
