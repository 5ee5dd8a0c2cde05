-- The slot that has a page, and what a walk from slot to slot has seen
use Rattle.std.specs.Prelude.{◌≡◌, ℕ, ◌-◌, ◌/◌, ◌%◌, ◌<◌, ◌≤◌, ◌==◌, Bool}
use Rattle.vm_base.specs.declared.page.PageRange.{PageRange}
use Rattle.vm_base.specs.Functions.{has, across, over}
use Rattle.vm_base.specs.Info.{info_from}
use Rattle.slot_lock.specs.Slots.{Slots, IsSlot, between}
use Rattle.radix_node.specs.declared.edit.Edit.{Edit}
use Rattle.radix_node.specs.Edit.{edited_info}
use Rattle.radix_node.specs.State.{State}
use Rattle.radix_node.specs.Run.{FitsWidth}

-- the pages from first up to end are one slot in this state, which has the page
pub record IsSlotOf (s : Slots) (page first end : ℕ) (state : State) : Type 0 where
  pub slot : IsSlot s first end
  pub low : first ≤ page
  pub high : page < end
  pub info : (p : ℕ) → first ≤ p → p < end → s.info p ≡ info_from state.info (p - first)
  pub owner : (p : ℕ) → first ≤ p → p < end → s.owner p ≡ state.owner
  pub sound : FitsWidth (end - first) state

-- the pages from first up to end are in this state, and all else stays
abbrev pub restated : Slots → ℕ → ℕ → State → Slots
restated s first end state = record s {
  info = across s.info (has (between first end)) (λ p. info_from state.info (p - first));
  owner = over s.owner (has (between first end)) state.owner;
}

-- a slot is divided in 512 of equal size
abbrev pub in_512 : PageRange → ℕ → ℕ → Bool
in_512 slot at p = (p - slot.first) % ((slot.end - slot.first) / 512) == 0

-- the pages of the range after a change, and all else as it is
abbrev pub edited_to : Slots → PageRange → Edit → Slots
edited_to s range edit =
    record s { info = across s.info (has range) (λ p. edited_info edit (p - range.first) (s.info p)) }
