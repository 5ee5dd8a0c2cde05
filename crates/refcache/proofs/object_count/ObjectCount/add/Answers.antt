use Rattle.std.proofs.Common.{rules}
use Rattle.refcache.proofs.object_count.ObjectCount.add.Goals as goal

pub returns-then-self-ne0 : goal.returns-then-self-ne0
returns-then-self-ne0 c = search rules

pub returns-then-self : goal.returns-then-self
returns-then-self c = search rules

pub returns : goal.returns
returns c = search rules
