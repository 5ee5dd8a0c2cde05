-- Nodes: points that merges come to, with the way to each
use Rattle.std.specs.Prelude.{◌≡◌, ℕ, zero, ◌<◌, Bool, List, Option, None, Some, length, map, slice_get}
use Rattle.vm_base.specs.declared.replies.Reply.{Reply}
use Rattle.vm_base.specs.Plain.{Plain}
use Rattle.frames.specs.Files.{FileParts}
use Rattle.slot_lock.specs.declared.map_list.MapLine.{MapLine}
use Rattle.litmus_merges.specs.declared.asked.Asked.{Asked}
use Rattle.litmus_merges.specs.Merging.{IsEnd, Point, TurnAt, start}
use Rattle.litmus_merges.specs.Laws.{Follows}
use Rattle.litmus_merges.specs.declared.nodes.Node.{Node}
use Rattle.litmus_merges.specs.declared.ending.End.{End}
use Rattle.litmus_merges.specs.Mappings.{IsSight}
use Rattle.litmus_merges.specs.Steps.{AreSound, map_of}

-- the point of a node
abbrev pub point_of : {A : Type 0} → List FileParts → Node A → Point
point_of objects node = record { told = node.told.items; map = map_of objects node.steps.items }

-- some node is at this point
abbrev pub HasPoint : {A : Type 0} → List FileParts → List (Node A) → Point → Type 0
HasPoint {A} objects nodes q =
    (j : ℕ) × (node : Node A) × (slice_get nodes j ≡ Some node) × (point_of objects node ≡ q)

-- the node says something of each call, and its changes are of valid pages
pub record IsNode {A : Type 0} (calls : List Asked) (node : Node A) : Type 0 where
  pub told : length node.told.items ≡ length calls
  pub sound : AreSound node.steps.items

-- a turn of a call leads to the node at this place from an earlier one
pub record Comes {A : Type 0} (objects : List FileParts) (calls : List Asked) (nodes : List (Node A)) (j : ℕ)
    (node : Node A) : Type 0 where
  pub earlier : node.from < j
  pub parent : Node A
  pub is_parent : slice_get nodes node.from ≡ Some parent
  pub turn : TurnAt calls (point_of objects parent) node.at (point_of objects node)

-- Each node but the first comes from an earlier one. With each of the first so many stand all to which its turns lead.
pub record IsExplored {A : Type 0} (objects : List FileParts) (calls : List Asked) (nodes : List (Node A)) (n : ℕ)
    : Type 0 where
  pub each : (j : ℕ) (node : Node A) → slice_get nodes j ≡ Some node → IsNode calls node
  pub comes : (j : ℕ) (node : Node A) → slice_get nodes j ≡ Some node → zero < j → Comes objects calls nodes j node
  pub closed : (j : ℕ) (node : Node A) (at : ℕ) (q : Point) → j < n → slice_get nodes j ≡ Some node
      → TurnAt calls (point_of objects node) at q → HasPoint objects nodes q

-- so do the points to which the first so many calls' turns lead from this node
abbrev pub IsTurned : {A : Type 0} → List FileParts → List Asked → List (Node A) → ℕ → ℕ → Type 0
IsTurned {A} objects calls nodes j n = (node : Node A) (at : ℕ) (q : Point) → at < n → slice_get nodes j ≡ Some node
    → TurnAt calls (point_of objects node) at q → HasPoint objects nodes q

-- nodes stay where they are
abbrev pub Keeps : {A : Type 0} → List (Node A) → List (Node A) → Type 0
Keeps {A} old new = (j : ℕ) (node : Node A) → slice_get old j ≡ Some node → slice_get new j ≡ Some node

-- there is a node with these replies and steps
abbrev pub HasAlike : {A : Type 0} → List (Node A) → Node A → Type 0
HasAlike {A} nodes node = (j : ℕ) × (other : Node A) × (slice_get nodes j ≡ Some other)
    × (other.told.items ≡ node.told.items) × (other.steps.items ≡ node.steps.items)

-- the turn of the call at this place leads from the node to this one, and to no other point
pub record IsNextNode {A : Type 0} (objects : List FileParts) (calls : List Asked) (node : Node A) (from at : ℕ)
    (next : Node A) : Type 0 where
  pub from_is : next.from ≡ from
  pub at_is : next.at ≡ at
  pub turn : TurnAt calls (point_of objects node) at (point_of objects next)
  pub one : (q : Point) → TurnAt calls (point_of objects node) at q → point_of objects next ≡ q
  pub node_is : IsNode calls next

-- it has a turn there, or none
abbrev pub IsNext : {A : Type 0} → List FileParts → List Asked → Node A → ℕ → ℕ → Option (Node A) → Type 0
IsNext objects calls node from at None = (q : Point) → ¬ TurnAt calls (point_of objects node) at q
IsNext objects calls node from at (Some next) = IsNextNode objects calls node from at next

-- ---- ends

-- the changes of each node are of valid pages
abbrev pub AreAllSound : {A : Type 0} → List (Node A) → Type 0
AreAllSound {A} nodes = (j : ℕ) (node : Node A) → slice_get nodes j ≡ Some node → AreSound node.steps.items

-- each node's turn came behind its parent
abbrev pub AreBackward : {A : Type 0} → List (Node A) → Type 0
AreBackward {A} nodes = (j : ℕ) (node : Node A) → slice_get nodes j ≡ Some node → zero < j → node.from < j

-- turns in this order lead from the first node to the node at this place
abbrev pub IsOrderTo : {A : Type 0} → List (Node A) → ℕ → List ℕ → Type 0
IsOrderTo {A} nodes last order = (objects : List FileParts) (calls : List Asked) (n : ℕ) (first end : Node A)
    → IsExplored objects calls nodes n → slice_get nodes zero ≡ Some first → slice_get nodes last ≡ Some end
    → Follows calls (point_of objects first) order (point_of objects end)

-- each end's replies are those of some node, to which its order leads, and its finals and mappings what is seen there
abbrev pub AreEnds : {A : Type 0} → List FileParts → List ℕ → Bool → List (Node A) → List (End A) → Type 0
AreEnds {A} objects addrs maps nodes ends = (k : ℕ) (end : End A) → slice_get ends k ≡ Some end
    → (j : ℕ) × (node : Node A) × (slice_get nodes j ≡ Some node) × (node.told.items ≡ map Some end.replies.items)
    × IsSight (map_of objects node.steps.items) addrs maps end.finals.items end.maps.items × IsOrderTo nodes j end.order.items

-- some end has these replies, finals and mappings
abbrev pub HasEnd : {A : Type 0} → List (End A) → List Reply → List Reply → List MapLine → Type 0
HasEnd {A} ends replies finals lines = (k : ℕ) × (end : End A) × (slice_get ends k ≡ Some end)
    × (end.replies.items ≡ replies) × (end.finals.items ≡ finals) × (end.maps.items ≡ lines)

-- some end has these replies, and what is seen of this map
abbrev pub HasEndOf : {A : Type 0} → List (End A) → List Reply → List ℕ → Bool → Plain → Type 0
HasEndOf ends replies addrs maps u =
    (finals : List Reply) × (lines : List MapLine) × IsSight u addrs maps finals lines × HasEnd ends replies finals lines

-- the first so many nodes at which all calls are answered have their ends
abbrev pub HaveEnds : {A : Type 0} → List FileParts → List ℕ → Bool → List (Node A) → ℕ → List (End A) → Type 0
HaveEnds {A} objects addrs maps nodes n ends = (j : ℕ) (node : Node A) (replies : List Reply) → j < n
    → slice_get nodes j ≡ Some node → node.told.items ≡ map Some replies
    → HasEndOf ends replies addrs maps (map_of objects node.steps.items)

-- ---- what is explored

-- turns of the calls in the end's order lead to where each call has the end's reply, and its finals and mappings are seen
abbrev pub IsReached : {A : Type 0} → List Asked → List ℕ → Bool → Plain → End A → Type 0
IsReached calls addrs maps t end = (u : Plain)
    × Follows calls (start calls t) end.order.items (record { told = map Some end.replies.items; map = u })
    × IsSight u addrs maps end.finals.items end.maps.items

-- so it is with each end
abbrev pub AreReached : {A : Type 0} → List Asked → List ℕ → Bool → Plain → List (End A) → Type 0
AreReached {A} calls addrs maps t ends = (k : ℕ) (end : End A) → slice_get ends k ≡ Some end → IsReached calls addrs maps t end

-- and no two have the same replies, finals and mappings
abbrev pub AreOnce : {A : Type 0} → List (End A) → Type 0
AreOnce {A} ends = (j k : ℕ) (one other : End A) → slice_get ends j ≡ Some one → slice_get ends k ≡ Some other
    → one.replies.items ≡ other.replies.items → one.finals.items ≡ other.finals.items → one.maps.items ≡ other.maps.items → j ≡ k

-- each combination that the calls can have, with what is seen at its end, is that of an end
abbrev pub AreAll : {A : Type 0} → List Asked → List ℕ → Bool → Plain → List (End A) → Type 0
AreAll calls addrs maps t ends =
    (replies : List Reply) (u : Plain) → IsEnd calls t replies u → HasEndOf ends replies addrs maps u
