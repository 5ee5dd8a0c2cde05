use Rattle.std.proofs.Common.{◌+◌, ◌-◌, ◌≤◌, length}
use Rattle.live_tree.specs.Cutting.{AddsSlots}
use Rattle.live_tree.proofs.held.cut.lock_parts.Given as goal

abbrev pub invariant-parts : goal.invariant-parts
invariant-parts g l = record {
  added : AddsSlots l.core l.first l.content l.next l.counter l.initial.guards.items l.guards.items;
  room : length l.guards.items + (512 - l.counter) ≤ l.guards.capacity;
}
