-- Merges: calls of several cores, of which each core makes its own in order, have their turns one after another
-- on a plain page map
use Rattle.std.specs.Prelude.{◌≡◌, ◌≢◌, ℕ, zero, suc, ◌<◌, List, map, length, replicate, set, slice_get, Option, None, Some}
use Rattle.vm_base.specs.declared.replies.Reply.{Reply}
use Rattle.vm_base.specs.Plain.{Plain}
use Rattle.litmus_merges.specs.declared.asked.Asked.{Asked}
use Rattle.litmus_merges.specs.OneTurn.{TurnsTo}

-- how far a merge has come: the reply to each call, if its turn has come, and the map
pub record Point : Type 0 where
  pub told : List (Option Reply)
  pub map : Plain

-- It is the turn of the call at this place: it has no reply yet, and each earlier call of its core has one.
pub record IsNext (calls : List Asked) (told : List (Option Reply)) (at : ℕ) (call : Asked) : Type 0 where
  pub is_call : slice_get calls at ≡ Some call
  pub untold : slice_get told at ≡ Some None
  pub earlier : (k : ℕ) (other : Asked) → k < at → slice_get calls k ≡ Some other → other.core ≡ call.core
      → slice_get told k ≢ Some None

-- The call at this place has a turn: it is answered, or its page is copied.
pub record TurnAt (calls : List Asked) (p : Point) (at : ℕ) (q : Point) : Type 0 where
  pub call : Asked
  pub next : IsNext calls p.told at call
  pub reply : Option Reply
  pub map : Plain
  pub turns : TurnsTo p.map call.core call.request reply map
  pub is : q ≡ record { told = set p.told at reply; map = map }

-- so many turns lead from one point to another
abbrev pub Merges : List Asked → Point → ℕ → Point → Type 0
Merges calls p zero q = q ≡ p
Merges calls p (suc n) q = (m : Point) × Merges calls p n m × ((at : ℕ) × TurnAt calls m at q)

-- no call has had its turn
abbrev pub start : List Asked → Plain → Point
start calls t = record { told = replicate (length calls) None; map = t }

-- turns lead from a map to where each call has the one of these replies, and leave this map
abbrev pub IsEnd : List Asked → Plain → List Reply → Plain → Type 0
IsEnd calls t replies u = (n : ℕ) × Merges calls (start calls t) n (record { told = map Some replies; map = u })

-- A combination of replies that the calls can have: some order of their turns gives it.
abbrev pub IsCombination : List Asked → Plain → List Reply → Type 0
IsCombination calls t replies = (u : Plain) × IsEnd calls t replies u
