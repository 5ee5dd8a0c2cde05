use Rattle.std.proofs.Common.{◌≡◌, length}
use Rattle.core_steps.specs.Machine.{IsLegal}
use Rattle.core_steps.specs.State.{world}
use Rattle.coded.specs.Batches.{MakesFirst}
use Rattle.coded.proofs.batch.make_items.Given as goal

-- the items so far
abbrev pub invariant-items : goal.invariant-items
invariant-items g l = record {
  makes : MakesFirst (world g.M.SlotRead.slots l.initial.machine.engine) l.raws l.at l.initial.told l.told (world g.M.SlotRead.slots l.machine.engine);
  room : length l.told ≡ length l.initial.told;
  legal : IsLegal (world g.M.SlotRead.slots l.initial.machine.engine) → IsLegal (world g.M.SlotRead.slots l.machine.engine);
}
