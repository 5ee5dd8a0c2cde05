use Rattle.std.proofs.Common.{◌≡◌, ◌++◌, ◌-◌, ◌≤◌, drop, length}
use Rattle.litmus_report.specs.Texts.{replies_text}
use Rattle.litmus_report.proofs.texts.add_replies.Given as goal

-- the replies so far, and those that are left, are all
abbrev pub invariant-calls : goal.invariant-calls
invariant-calls g l = record {
  within : l.at ≤ length l.calls;
  within_replies : l.at ≤ length l.replies;
  written : l.out.items ++ replies_text l.before (drop l.at l.calls) (drop l.at l.replies) ≡ l.fn.out.items ++ replies_text 64 l.calls l.replies;
}

abbrev pub decreases-calls : goal.decreases-calls
decreases-calls g l = length l.calls - l.at
