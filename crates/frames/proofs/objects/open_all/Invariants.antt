use Rattle.std.proofs.Common.{◌≡◌, map}
use Rattle.frames.specs.Given.{opened}
use Rattle.frames.proofs.objects.open_all.Given as goal

abbrev pub invariant-files : goal.invariant-files
invariant-files g l = l.files.items ≡ map opened l.yielded
