use Rattle.std.proofs.Common.{◌≡◌, ◌≤◌, ◌+◌, ◌-◌, length, drop}
use Rattle.import_steps.specs.Taking.{place_of}
use Rattle.import_steps.proofs.taking.place_of.Given as goal

abbrev pub invariant-threads : goal.invariant-threads
invariant-threads l = record { within : l.at ≤ length l.threads; same : l.at + place_of l.thread (drop l.at l.threads) ≡ place_of l.thread l.threads }

abbrev pub decreases-threads : goal.decreases-threads
decreases-threads l = length l.threads - l.at
