-- Orders of turns, and lists of points that merges don't leave
use Rattle.std.proofs.Common.{◌≡◌, ℕ, zero, suc, ◌++◌, ◌∷◌, [], List, length, map, Some, refl, sym, subst}
use Rattle.vm_base.specs.declared.replies.Reply.{Reply}
use Rattle.vm_base.specs.Plain.{Plain}
use Rattle.litmus_merges.specs.declared.asked.Asked.{Asked}
use Rattle.litmus_merges.specs.Laws.{Follows, Has, IsClosedList}
use Rattle.litmus_merges.specs.Merging.{IsEnd, Merges, Point, TurnAt, start}

-- a turn before a merge
first_turn : (calls : List Asked) (p m : Point) (at : ℕ) → TurnAt calls p at m → (n : ℕ) (q : Point) → Merges calls m n q → Merges calls p (suc n) q
first_turn calls p m at turn zero q h = (p, refl, (at, subst (TurnAt calls p at) (sym h) turn))
first_turn calls p m at turn (suc n) q h = (h.0, first_turn calls p m at turn n h.0 h.1, h.2)

follows_merges : (calls : List Asked) (p q : Point) (order : List ℕ) → Follows calls p order q → Merges calls p (length order) q
follows_merges calls p q [] h = h
follows_merges calls p q (at ∷ order) h = first_turn calls p h.0 at h.1 (length order) q (follows_merges calls h.0 q order h.2)

-- a turn behind others
last_turn : (calls : List Asked) (p m q : Point) (at : ℕ) (order : List ℕ) → Follows calls p order m → TurnAt calls m at q
    → Follows calls p (order ++ at ∷ []) q
last_turn calls p m q at [] h turn = (q, subst (λ (x : Point). TurnAt calls x at q) h turn, refl)
last_turn calls p m q at (b ∷ order) h turn = (h.0, h.1, last_turn calls h.0 m q at order h.2 turn)

merges_follow : (calls : List Asked) (p : Point) (n : ℕ) (q : Point) → Merges calls p n q → (order : List ℕ) × Follows calls p order q
merges_follow calls p zero q h = ([], h)
merges_follow calls p (suc n) q h =
    let before = merges_follow calls p n h.0 h.1 in
    (before.0 ++ h.2.0 ∷ [], last_turn calls p h.0 q h.2.0 before.0 before.1 h.2.1)

pub orders_merge : (calls : List Asked) (p q : Point)
    → ((order : List ℕ) → Follows calls p order q → Merges calls p (length order) q)
    × ((n : ℕ) → Merges calls p n q → (order : List ℕ) × Follows calls p order q)
orders_merge calls p q = (follows_merges calls p q, λ n h. merges_follow calls p n q h)

all_points : (calls : List Asked) (t : Plain) (points : List Point) → IsClosedList calls t points → (n : ℕ) (q : Point)
    → Merges calls (start calls t) n q → Has points q
all_points calls t points c zero q h = subst (Has points) (sym h) c.first
all_points calls t points c (suc n) q h = c.closed h.0 q h.2.0 (all_points calls t points c n h.0 h.1) h.2.1

pub all_ends : (calls : List Asked) (t u : Plain) (points : List Point) (replies : List Reply)
    → IsClosedList calls t points → IsEnd calls t replies u → Has points (record { told = map Some replies; map = u })
all_ends calls t u points replies c h = all_points calls t points c h.0 (record { told = map Some replies; map = u }) h.1
