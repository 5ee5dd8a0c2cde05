use Rattle.std.proofs.Common.{◌≡◌, map}
use Rattle.seats.specs.Packing.{shown}
use Rattle.certifier.specs.Following.{events_of, outcomes_of}
use Rattle.certifier.specs.Order.{all_notes, in_order}
use Rattle.litmus.proofs.following.steps_of.Given as goal

-- the notes with tickets so far
abbrev pub invariant-tickets : goal.invariant-tickets
invariant-tickets l = record {
  events : l.events.items ≡ events_of (in_order l.at (all_notes (map shown l.seats)));
  outcomes : l.outcomes.items ≡ outcomes_of (in_order l.at (all_notes (map shown l.seats)));
}
