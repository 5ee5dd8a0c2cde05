use Rattle.std.proofs.Common.{◌≡◌, ◌≤◌, ◌-◌, ◌++◌, length, take}
use Rattle.std.specs.List.{flat_map}
use Rattle.state_text.specs.Texts.{message_line}
use Rattle.state_text.proofs.texts.put_inbox.Given as goal

abbrev pub invariant-messages : goal.invariant-messages
invariant-messages l = record {
  within : l.at ≤ length l.inbox;
  written : l.out.items ≡ l.initial.out.items ++ flat_map (message_line l.form l.core) (take l.at l.inbox);
}

abbrev pub decreases-messages : goal.decreases-messages
decreases-messages l = length l.inbox - l.at
