use Rattle.std.proofs.Common.{◌≡◌, length}
use Rattle.std.specs.List.{All}
use Rattle.refcache.specs.Pieces.{IsNewCount}
use Rattle.refcache.proofs.table.zero_counts.Given as goal

abbrev pub invariant-objects : goal.invariant-objects
invariant-objects g l = (length l.counts.items ≡ l._object) × All IsNewCount l.counts.items
