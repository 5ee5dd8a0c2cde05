use Rattle.std.proofs.Common.{◌≡◌, ◌+◌, length}
use Rattle.std.specs.List.{All}
use Rattle.refcache.specs.Pieces.{IsNewCore}
use Rattle.refcache.proofs.table.empty_cores.Given as goal

abbrev pub invariant-cores : goal.invariant-cores
invariant-cores g l = (length l.parts.items ≡ l._core) × All (IsNewCore (l.objects + 1)) l.parts.items
