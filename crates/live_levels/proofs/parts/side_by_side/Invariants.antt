use Rattle.std.proofs.Common.{◌≡◌, ℕ, ◌+◌, ◌*◌, ◌<◌, ◌≤◌, length, get_or}
use Rattle.std.specs.Prelude.{vec_capacity}
use Rattle.live_levels.specs.Slots.{SlotView}
use Rattle.live_levels.specs.Parts.{IsPlaced, IsUnused}
use Rattle.live_levels.proofs.parts.side_by_side.Given as goal

abbrev pub invariant-slots : goal.invariant-slots
invariant-slots g l = record {
  count : length l.slots.items ≡ l.k;
  each : (k : ℕ) (d : SlotView) → k < l.k → IsPlaced (l.first + k * l.pages) l.pages (get_or l.slots.items k d);
  unused : (k : ℕ) (d : SlotView) → k < l.k → IsUnused (get_or l.slots.items k d);
  room : 512 ≤ vec_capacity l.slots;
}
