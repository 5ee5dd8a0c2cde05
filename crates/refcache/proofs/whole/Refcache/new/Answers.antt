use Rattle.refcache.proofs.Sound.{sound_open}
use Rattle.refcache.proofs.whole.Refcache.new.Goals as goal

pub invariant_of-result : goal.invariant_of-result
invariant_of-result g c = sound_open c.in_ok-table.table c.args.cores c.args.objects c.requires.cores.1 c.in_ok-table.ensures.opening
    c.in_ok-table.ensures.room c.in_ok-table.ensures.epochs
