use Rattle.std.proofs.Common.{◌≡◌}
use Rattle.std.specs.List.{flat_map, range_with_len}
use Rattle.litmus_text.specs.Scripts.{calls_of}
use Rattle.litmus_text.proofs.places.by_core.Given as goal

-- the calls of the cores so far
abbrev pub invariant-cores : goal.invariant-cores
invariant-cores g l = l.sorted.items ≡ flat_map (calls_of l.calls) (range_with_len 0 l.core)
