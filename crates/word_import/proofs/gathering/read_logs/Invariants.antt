use Rattle.std.proofs.Common.{◌≡◌, ◌≤◌, ◌-◌, map, length, take}
use Rattle.word_import.specs.Gathered.{thread_of}
use Rattle.word_import.proofs.gathering.read_logs.Given as goal

abbrev pub invariant-names : goal.invariant-names
invariant-names g l = record {
  within : l.at ≤ length l.names;
  threads : map (λ l. l.thread) l.logs.items ≡ map thread_of (take l.at l.names);
}

abbrev pub decreases-names : goal.decreases-names
decreases-names g l = length l.names - l.at
