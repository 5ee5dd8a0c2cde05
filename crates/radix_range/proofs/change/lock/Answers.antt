use Rattle.radix_range.proofs.Locking.{tries, tried_radix}
use Rattle.radix_range.proofs.change.lock.Goals as goal

pub returns-clause-tree : goal.returns-clause-tree
returns-clause-tree g c =
    let e = c.lock_at.ensures in
    tried_radix c.args.root.now c.lock_at.new.self c.requires.tree c.args.core c.args.cursor c.args.end c.lock_at.result c.requires.valid.0
    c.requires.ordered c.requires.valid.1 e.meets e.set e.level e.whole

pub returns-clause-tries : goal.returns-clause-tries
returns-clause-tries g c =
    let e = c.lock_at.ensures in
    tries c.args.root.now c.lock_at.new.self c.requires.tree c.args.core c.args.cursor c.args.end c.lock_at.result c.requires.ordered
    c.requires.valid.1 e.meets e.set
