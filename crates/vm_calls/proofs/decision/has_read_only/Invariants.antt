use Rattle.std.proofs.Common.{◌-◌}
use Rattle.frames.specs.Files.{files_of}
use Rattle.vm_calls.proofs.Steps.{Passed}
use Rattle.vm_calls.proofs.decision.has_read_only.Given as goal

abbrev pub invariant-slots : goal.invariant-slots
invariant-slots g l = Passed (files_of l.objects) (g.M.SlotRead.slots l.map) l.range l.page

abbrev pub decreases-slots : goal.decreases-slots
decreases-slots g l = l.range.end - l.page
