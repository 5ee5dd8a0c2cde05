-- A node: its 512 slots, each in a state of its own or with the slots of the node below
use Rattle.std.specs.Prelude.{◌≡◌, ℕ, ◌-◌, ◌*◌, List, [], ◌∷◌, ◌++◌, map, Option, Some, None, slice_set}
use Rattle.std.specs.Prelude.{slice_get}
use Rattle.std.specs.List.{range_with_len}
use Rattle.radix_node.specs.State.{State, state_from, IsPlain}
use Rattle.radix_node.specs.Run.{Run, width_of, divided, IsCarried, FitsWidth, IsWhole}

pub data Part : Type 0 where
  Own : State → Part
  Below : List Run → Part

pub record Parts : Type 0 where
  pub level : ℕ
  pub parts : List Part

-- the slots of a part of w pages that are no child
abbrev pub runs_of : ℕ → Part → List Run
runs_of w (Own s) = (record { width = w; state = s }) ∷ []
runs_of w (Below rs) = rs

abbrev pub flatten : ℕ → List Part → List Run
flatten w [] = []
flatten w (x ∷ xs) = runs_of w x ++ flatten w xs

-- all slots of a node that are no child, in order of pages
abbrev pub runs : Parts → List Run
runs v = flatten (width_of v.level) v.parts

-- slots of w pages that carry on what one slot says
abbrev pub owns : ℕ → State → ℕ → List Part
owns w s n = map (λ k. Own (state_from s (k * w))) (range_with_len 0 n)

unfoldable pub owns_divided : ℕ → State → List Part
owns_divided w s = owns w s 512

-- a node of the level whose slots carry on what one slot says
abbrev pub node_of : ℕ → State → Parts
node_of level s = record { level = level; parts = owns_divided (width_of level) s }

abbrev pub IsSoundPart : ℕ → Part → Type 0
IsSoundPart level (Own s) = FitsWidth (width_of level) s
IsSoundPart level (Below rs) = IsWhole (level - 1) (width_of level) rs

-- the slot is no child
abbrev pub IsOwn : Option Part → Type 0
IsOwn None = ⊥
IsOwn (Some (Own s)) = Unit {0}
IsOwn (Some (Below rs)) = ⊥

-- the slot is a child
abbrev pub IsBelow : Option Part → Type 0
IsBelow None = ⊥
IsBelow (Some (Own s)) = ⊥
IsBelow (Some (Below rs)) = Unit {0}

-- the slot became a child whose slots carry on its content and its owner
pub record Expands (old new : Parts) (slot : ℕ) : Type 0 where
  pub state : State
  pub same_level : new.level ≡ old.level
  pub was : slice_get old.parts slot ≡ Some (Own state)
  pub parts : new.parts ≡ slice_set old.parts slot (Below (divided (width_of (old.level - 1)) state))

-- the slot is a child whose slots are no children and plain, and carry on what the first says
pub record CanFoldSlot (v : Parts) (slot : ℕ) (s : State) : Type 0 where
  pub plain : IsPlain s
  pub below : List Run
  pub child : slice_get v.parts slot ≡ Some (Below below)
  pub carried : IsCarried (width_of (v.level - 1)) s below

-- the slots of such a child became one
pub record FoldsSlot (old new : Parts) (slot : ℕ) : Type 0 where
  pub state : State
  pub plain : IsPlain state
  pub was : slice_get old.parts slot ≡ Some (Below (divided (width_of (old.level - 1)) state))
  pub same_level : new.level ≡ old.level
  pub parts : new.parts ≡ slice_set old.parts slot (Own state)
