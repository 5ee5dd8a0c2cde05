use Rattle.std.proofs.Common.{◌≡◌, ◌≤◌, ◌-◌, ◌++◌, length, take}
use Rattle.std.specs.List.{flat_map}
use Rattle.state_text.specs.Counts.{queue_line}
use Rattle.state_text.proofs.counts.put_queue.Given as goal

abbrev pub invariant-queued : goal.invariant-queued
invariant-queued l = record {
  within : l.at ≤ length l.queue;
  written : l.out.items ≡ l.initial.out.items ++ flat_map (queue_line l.form l.core) (take l.at l.queue);
}

abbrev pub decreases-queued : goal.decreases-queued
decreases-queued l = length l.queue - l.at
