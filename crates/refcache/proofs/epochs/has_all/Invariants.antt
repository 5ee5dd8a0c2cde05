use Rattle.vm_base.specs.Cores.{members}
use Rattle.refcache.specs.Epochs.{AllMarked}
use Rattle.refcache.proofs.epochs.has_all.Given as goal

abbrev pub invariant-cores : goal.invariant-cores
invariant-cores l = AllMarked l.core (members l.flushed)
