-- A node's slots as parts
use Rattle.std.specs.Prelude.{◌≡◌, ℕ, ◌+◌, ◌≤◌, List, length, map, All}
use Rattle.radix_node.specs.declared.node.Slot.{Slot}
use Rattle.radix_node.specs.declared.node.Slot.TheVariants.{Own as OwnSlot, Child}
use Rattle.radix_node.specs.State.{state_of}
use Rattle.radix_node.specs.Node.{Part, Own, Below, runs, IsSoundPart}

abbrev pub part_of : {A : Type 0} → Slot A → Part
part_of (OwnSlot s) = Own (state_of s)
part_of (Child b) = Below (runs b.value)

abbrev pub parts_of : {A : Type 0} → List (Slot A) → List Part
parts_of ss = map part_of ss

-- a child is one level lower
abbrev pub IsLower : {A : Type 0} → ℕ → Slot A → Type 0
IsLower level (OwnSlot s) = Unit {0}
IsLower level (Child b) = b.value.level + 1 ≡ level

pub record IsNode {A : Type 0} (level : ℕ) (slots : List (Slot A)) : Type 0 where
  pub low : level ≤ 3
  pub full : length slots ≡ 512
  pub lower : All (IsLower level) slots
  pub fit : All (IsSoundPart level) (parts_of slots)
