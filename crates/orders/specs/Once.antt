-- Which calls of an order have taken effect so far
use Rattle.std.specs.Prelude.{◌≡◌, ℕ, ◌<◌, ◌&&◌, nat_lt, not, Bool, true, false, List, length, get_or, set, slice_get, Some}
use Rattle.orders.specs.Orders.{call_of}
use Rattle.orders.specs.declared.history.Item.{Item}
use Rattle.orders.specs.declared.history.Item.TheVariants.{Reply, Copy}

-- an item may follow: there is its call, which has not taken effect
abbrev pub may_follow : List Bool → Item → Bool
may_follow marks item = nat_lt (call_of item) (length marks) && not (get_or marks (call_of item) false)

-- the marks behind it
abbrev pub marks_after : List Bool → Item → List Bool
marks_after marks (Reply i) = set marks i true
marks_after marks (Copy i) = marks

-- the first items have each of the marked calls once, and no other, and copies only before them
pub record IsMarked (count : ℕ) (items : List Item) (at : ℕ) (marks : List Bool) : Type 0 where
  pub places : length marks ≡ count
  pub known : (k : ℕ) (item : Item) → k < at → slice_get items k ≡ Some item → call_of item < count
  pub marked : (i : ℕ) → get_or marks i false ≡ true → (k : ℕ) × (k < at) × (slice_get items k ≡ Some (Reply i))
  pub replied : (i k : ℕ) → k < at → slice_get items k ≡ Some (Reply i) → get_or marks i false ≡ true
  pub once : (i j k : ℕ) → j < at → k < at → slice_get items j ≡ Some (Reply i) → slice_get items k ≡ Some (Reply i) → j ≡ k
  pub copies : (i j k : ℕ) → j < at → k < at → slice_get items j ≡ Some (Copy i) → slice_get items k ≡ Some (Reply i) → j < k

-- all calls are marked
abbrev pub AllMarked : List Bool → Type 0
AllMarked marks = (i : ℕ) → i < length marks → get_or marks i false ≡ true
