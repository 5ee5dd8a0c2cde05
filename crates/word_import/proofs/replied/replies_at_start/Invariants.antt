use Rattle.std.proofs.Common.{◌≡◌, ◌≤◌, ◌-◌, length, drop}
use Rattle.import_lackey.specs.Replies.{replied_so_far}
use Rattle.import_steps.specs.Taking.{so_far}
use Rattle.word_import.specs.Replied.{all_listed, replies_at_start}
use Rattle.word_import.proofs.replied.replies_at_start.Given as goal

abbrev pub invariant-steps : goal.invariant-steps
invariant-steps l = record {
  within : l.at ≤ length l.steps.items;
  same : all_listed (replied_so_far l.replies) (drop l.at l.steps.items) ≡ replies_at_start (so_far l.taken);
}

abbrev pub decreases-steps : goal.decreases-steps
decreases-steps l = length l.steps.items - l.at
