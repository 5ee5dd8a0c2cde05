use Rattle.std.proofs.Common.{◌≡◌, ◌≤◌, ◌⊎◌, take}
use Rattle.vm_base.specs.Plain.{nothing_mapped}
use Rattle.frames.specs.Given.{given_files}
use Rattle.audit.specs.Placing.{rule_of}
use Rattle.overlapping.specs.Story.{AreWrong, most_first, without_times}
use Rattle.overlapping.proofs.story.story.Given as goal

-- where fewer first calls are tried, the replies of all were wrong
abbrev pub invariant-counts : goal.invariant-counts
invariant-counts g l = record {
  few : l.count ≤ most_first l.calls l.numbers;
  most : (l.count ≡ most_first l.calls l.numbers)
      ⊎ AreWrong (rule_of l.any_place) (nothing_mapped (given_files l.files)) (without_times (take (most_first l.calls l.numbers) l.calls));
}

abbrev pub decreases-counts : goal.decreases-counts
decreases-counts g l = l.count
