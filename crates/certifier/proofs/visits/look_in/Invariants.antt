use Rattle.machine_model.proofs.Words.{◌≡◌, ℕ, ◌≤◌, length, Option, PageInfo}
use Rattle.core_steps.specs.Machine.{state}
use Rattle.certifier.specs.Looks.{AreLooked}
use Rattle.certifier.proofs.Looked.{CaughtFrom}
use Rattle.certifier.proofs.visits.look_in.Given as goal

-- what was known of the slots is known now, and those so far are caught up
abbrev pub invariant-slots : goal.invariant-slots
invariant-slots g l = record {
  count : length l.looks.items ≡ length l.slots;
  looked : (n : ℕ) (maps : ℕ → ℕ → Option PageInfo) → l.t ≤ n
      → AreLooked n maps (state l.machine).slots.info l.t l.slots l.fn.looks.items
      → AreLooked n maps (state l.machine).slots.info l.t l.slots l.looks.items;
  caught : CaughtFrom l.t l.from l.at l.looks.items;
}
