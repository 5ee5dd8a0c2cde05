use Rattle.std.proofs.Common.{◌≡◌, Some, take}
use Rattle.vm_base.specs.Plain.{file_bytes}
use Rattle.litmus_merges.specs.Seen.{byte_at}
use Rattle.litmus_merges.specs.Steps.{map_of}
use Rattle.litmus_merges.proofs.reading.file_byte.Given as goal

-- the byte after the steps so far
abbrev pub invariant-steps : goal.invariant-steps
invariant-steps g l = byte_at (file_bytes ((map_of l.objects (take l.at l.steps)).file l.file) l.spot.page) l.spot.offset ≡ Some l.byte
