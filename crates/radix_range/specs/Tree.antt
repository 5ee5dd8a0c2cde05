-- What a tree of slots says of each page
use Rattle.std.specs.Prelude.{◌≡◌, ℕ, ◌*◌, ◌%◌, ◌==◌, ◌||◌, ◌^◌, nat_le, Bool, None, List}
use Rattle.vm_base.specs.Info.{info_from}
use Rattle.vm_base.specs.Pages.{IsPage}
use Rattle.slot_lock.specs.Slots.{Slots, IsSlotMap}
use Rattle.radix_node.specs.State.{no_state}
use Rattle.radix_node.specs.Run.{Run, cell_at, width_of, IsWhole}
use Rattle.radix_node.specs.Node.{Parts, runs}

abbrev pub run_slots : List Run → Slots
run_slots rs = record {
  info = λ p. info_from (cell_at rs p).state.info (cell_at rs p).offset;
  owner = λ p. (cell_at rs p).state.owner;
  edge = λ p. (cell_at rs p).offset == 0;
}

-- what the tree below a root says
abbrev pub tree_slots : Parts → Slots
tree_slots v = run_slots (runs v)

-- where the slots of a root begin that has no child: each has 2^27 pages, and above them each number
-- stands alone
abbrev pub root_edges : ℕ → Bool
root_edges p = p % 2 ^ 27 == 0 || nat_le (2 ^ 36) p

-- a tree in which nothing is mapped, nothing is held, and only the root has slots
abbrev pub new_tree : Slots
new_tree = record { info = λ p. None; owner = λ p. None; edge = root_edges }

-- the root has four levels, what is no page is never mapped and never held, and the slots are those of
-- a slot map
pub record IsRadix (v : Parts) : Type 0 where
  pub top : v.level ≡ 3
  pub whole : IsWhole v.level (512 * width_of v.level) (runs v)
  pub outside : (p : ℕ) → ¬ IsPage p → (cell_at (runs v) p).state ≡ no_state
  pub laws : (s : Slots) → s ≡ tree_slots v → IsSlotMap s
