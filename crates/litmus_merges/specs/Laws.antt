-- Laws of merges
use Rattle.std.specs.Prelude.{◌≡◌, ℕ, false, List, [], ◌∷◌, map, length, slice_get, Some}
use Rattle.vm_base.specs.declared.replies.Reply.{Reply}
use Rattle.vm_base.specs.Plain.{Plain}
use Rattle.vm_base.specs.Requests.{is_placed}
use Rattle.litmus_merges.specs.declared.asked.Asked.{Asked}
use Rattle.litmus_merges.specs.Merging.{IsEnd, Merges, Point, TurnAt, start}

-- no call leaves a place open
abbrev pub AreNamed : List Asked → Type 0
AreNamed calls = (k : ℕ) (call : Asked) → slice_get calls k ≡ Some call → is_placed call.request ≡ false

-- there is no second point that a turn leads to
abbrev pub TurnsLeadToOnePoint : Type 0
TurnsLeadToOnePoint =
    (calls : List Asked) (p q r : Point) (at : ℕ) → AreNamed calls → TurnAt calls p at q → TurnAt calls p at r → q ≡ r

-- turns of the calls at these places, one after another, lead from one point to another
abbrev pub Follows : List Asked → Point → List ℕ → Point → Type 0
Follows calls p [] q = q ≡ p
Follows calls p (at ∷ order) q = (m : Point) × TurnAt calls p at m × Follows calls m order q

-- they are a merge, and each merge has an order
abbrev pub OrdersAreMerges : Type 0
OrdersAreMerges =
    (calls : List Asked) (p q : Point)
    → ((order : List ℕ) → Follows calls p order q → Merges calls p (length order) q)
    × ((n : ℕ) → Merges calls p n q → (order : List ℕ) × Follows calls p order q)

-- the point is in the list
abbrev pub Has : List Point → Point → Type 0
Has points q = (j : ℕ) × (slice_get points j ≡ Some q)

-- the list has the first point, and with each point those that its turns lead to
pub record IsClosedList (calls : List Asked) (t : Plain) (points : List Point) : Type 0 where
  pub first : Has points (start calls t)
  pub closed : (p q : Point) (at : ℕ) → Has points p → TurnAt calls p at q → Has points q

-- it has each point at which a merge ends
abbrev pub ClosedListsHaveAllEnds : Type 0
ClosedListsHaveAllEnds =
    (calls : List Asked) (t u : Plain) (points : List Point) (replies : List Reply)
    → IsClosedList calls t points → IsEnd calls t replies u → Has points (record { told = map Some replies; map = u })
