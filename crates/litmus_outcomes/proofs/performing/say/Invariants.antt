use Rattle.std.proofs.Common.{◌≡◌, ℕ, drop}
use Rattle.litmus_outcomes.specs.Performed.{said}
use Rattle.litmus_outcomes.specs.Dues.{dues_said}
use Rattle.litmus_outcomes.proofs.performing.say.Given as goal

-- where what is left is due, all is
abbrev pub invariant-events : goal.invariant-events
invariant-events g l = (c : ℕ) → said c (drop l.k l.events) (drop l.k l.outcomes) ≡ dues_said c l.dues.items
    → said c l.events l.outcomes ≡ dues_said c l.fn.dues.items
