use Rattle.std.proofs.Common.{◌≡◌, ◌≤◌, ◌-◌, length, drop}
use Rattle.state_text.specs.Texts.{going_word}
use Rattle.state_text.proofs.texts.going_word.Given as goal

abbrev pub invariant-messages : goal.invariant-messages
invariant-messages l = record {
  within : l.at ≤ length l.inbox;
  same : going_word l.form l.inbox l.page ≡ going_word l.form (drop l.at l.inbox) l.page;
}

abbrev pub decreases-messages : goal.decreases-messages
decreases-messages l = length l.inbox - l.at
