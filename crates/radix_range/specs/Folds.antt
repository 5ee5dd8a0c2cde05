-- When a tree folds a page's node, and what it makes of it
use Rattle.std.specs.Prelude.{◌≡◌, ℕ, ◌+◌, ◌*◌, ◌<◌, ◌≤◌, false, None}
use Rattle.vm_base.specs.Functions.{has, over}
use Rattle.vm_base.specs.Info.{info_from, is_leaf}
use Rattle.slot_lock.specs.Slots.{Slots, IsSlot, between}
use Rattle.radix_node.specs.Run.{width_of}

-- A node below the root has the page, and its 512 slots are no nodes: nobody holds them, they have
-- no frame and no recorded core, and their pages go on from slot to slot
pub record CanFold (s : Slots) (page : ℕ) : Type 0 where
  pub level : ℕ
  pub below_root : level < 3
  -- where the node begins: a multiple of its pages
  pub before : ℕ
  pub from : before * width_of (level + 1) ≤ page
  pub until : page < before * width_of (level + 1) + width_of (level + 1)
  pub slots : (k : ℕ) → k < 512
      → IsSlot s (before * width_of (level + 1) + k * width_of level)
      (before * width_of (level + 1) + k * width_of level + width_of level)
  pub free : (k : ℕ) → k < 512 → s.owner (before * width_of (level + 1) + k * width_of level) ≡ None
  pub no_leaf : is_leaf (s.info (before * width_of (level + 1))) ≡ false
  pub goes_on : (k : ℕ) → k < 512
      → s.info (before * width_of (level + 1) + k * width_of level) ≡ info_from
      (s.info (before * width_of (level + 1))) (k * width_of level)

-- the pages from first up to end are one slot, and all else stays
abbrev pub joined : Slots → ℕ → ℕ → Slots
joined s first end = record s { edge = over s.edge (has (between (first + 1) end)) false }

-- such a node became one slot
pub record FoldsNode (s t : Slots) (page : ℕ) : Type 0 where
  pub could : CanFold s page
  pub now : t ≡ joined s (could.before * width_of (could.level + 1))
      (could.before * width_of (could.level + 1) + width_of (could.level + 1))
