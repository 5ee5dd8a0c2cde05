use Rattle.machine_model.proofs.Words.{◌≡◌, ◌≤◌, members}
use Rattle.frames.specs.Bits.{count_below}
use Rattle.watched.proofs.look.core_count.Given as goal

abbrev pub invariant-cores : goal.invariant-cores
invariant-cores l = record {
  count : l.count ≡ count_below (members l.set) l.index;
  few : l.count ≤ l.index;
}
