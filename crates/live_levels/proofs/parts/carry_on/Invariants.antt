use Rattle.std.proofs.Common.{◌≡◌, ℕ, ◌+◌, ◌*◌, ◌<◌, ◌≤◌, length, get_or}
use Rattle.live_levels.specs.Slots.{SlotView}
use Rattle.live_levels.specs.Parts.{IsPlaced, IsPart}
use Rattle.live_levels.proofs.parts.carry_on.Given as goal

abbrev pub invariant-slots : goal.invariant-slots
invariant-slots g l = record {
  count : length l.slots.items ≡ 512;
  carried : (k : ℕ) (d : SlotView) → k < l.k → IsPart l.divided l.pages (k * l.pages) (get_or l.slots.items k d);
  rest : (k : ℕ) (d : SlotView) → l.k ≤ k → k < 512 → IsPlaced (l.divided.first + k * l.pages) l.pages (get_or l.slots.items k d);
}
