use Rattle.std.proofs.Common.{◌≡◌, ◌+◌, drop}
use Rattle.overlapping.specs.Story.{first_mapped}
use Rattle.overlapping.proofs.story.first_mapped.Given as goal

-- those so far are such
abbrev pub invariant-calls : goal.invariant-calls
invariant-calls l = l.at + first_mapped (drop l.at l.calls) ≡ first_mapped l.calls
