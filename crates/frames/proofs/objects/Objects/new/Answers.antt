use Rattle.frames.proofs.Cached.{files-opened, cached-opened}
use Rattle.frames.proofs.objects.Objects.new.Goals as goal

pub returns-clause-cached : goal.returns-clause-cached
returns-clause-cached g c = rw c.in_ok-files.ensures (cached-opened c.args.files.items)

pub returns-clause-files : goal.returns-clause-files
returns-clause-files g c = rw c.in_ok-files.ensures (files-opened c.args.files.items)
