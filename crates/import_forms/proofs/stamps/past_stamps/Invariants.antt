use Rattle.std.proofs.Common.{◌≡◌, ◌≤◌}
use Rattle.import_forms.specs.Stamps.{past_stamps}
use Rattle.import_forms.proofs.stamps.past_stamps.Given as goal

abbrev pub invariant-stamps : goal.invariant-stamps
invariant-stamps l = record { few : l.more ≤ 5; same : past_stamps l.more l.rest ≡ past_stamps 5 l.bytes }

abbrev pub decreases-stamps : goal.decreases-stamps
decreases-stamps l = l.more
