-- The ticket word as plain data: what each ticketer has drawn, and how many others it may still
-- split off.
use Rattle.std.specs.Prelude.{◌≡◌, ℕ, ◌+◌, ◌^◌, ◌<◌, ◌≤◌, ltb, ◌==◌, sum_by, count_by, List, [], ◌∷◌}
use Rattle.std.specs.Prelude.{◌++◌, length, get_or, slice_index, cond, All}
use mathlib.Core.Option.{some}
use lib.ListN.{get_elem?}
use Rattle.atomic_table.specs.Table.{State, Me, Step}
use Rattle.atomic_table.specs.Seated.{TableId}
use Rattle.seats.specs.declared.tickets.Drawn.{Drawn}

-- how often x stands in the list
abbrev pub times : ℕ → List ℕ → ℕ
times x ys = count_by (λ y. y == x) ys

-- 1 where x is below n, else 0
abbrev pub once_below : ℕ → ℕ → ℕ
once_below x n = cond (ltb x n) 1 0

-- each next number is above those before it
abbrev pub Rises : List ℕ → Type 0
Rises [] = Unit {0}
Rises (x ∷ []) = Unit {0}
Rises (x ∷ y ∷ ys) = (x < y) × Rises (y ∷ ys)

-- the word has 64 bytes on each side that nobody uses, so that nothing else lies in its cache line
abbrev pub middle : ℕ
middle = 8

-- the word in the middle, and 8 words of 8 bytes on each side
abbrev pub row_length : ℕ
row_length = 17

-- how often x stands in the lists, and how many numbers they have
abbrev pub times_in : ℕ → List (List ℕ) → ℕ
times_in x lists = sum_by (λ l. times x l) lists

abbrev pub count_in : List (List ℕ) → ℕ
count_in lists = sum_by (λ l. length l) lists

-- each number below n stands in the lists once, and no other number does
pub record AreDealt (n : ℕ) (lists : List (List ℕ)) : Type 0 where
  pub each_once : (x : ℕ) → times_in x lists ≡ once_below x n
  pub counted : count_in lists ≡ n

abbrev pub drawn : List (List ℕ) → ℕ → Drawn
drawn lists n = record { lists = lists; spare = n }

-- the tickets of a view that is that of one ticketer
abbrev pub own : Drawn → List ℕ
own v = get_or v.lists 0 []

-- how many ticketers a view stands for: those that it has, and those that it may still split off
abbrev pub weight : Drawn → ℕ
weight v = v.spare + length v.lists

-- what is true of the word and of what all ticketers drew, between any two steps
pub record Dealt (s : State (Unit {0}) Drawn) : Type 0 where
  -- the word stands in the middle of its row
  pub row : length s.words ≡ row_length
  -- each number below the word is a ticket of exactly one ticketer, once, and none has any other
  -- ticket
  pub each_once : (x : ℕ)
      → sum_by (λ v. times_in x v.lists) s.views ≡ once_below x (slice_index s.words middle)
  pub counted : sum_by (λ v. count_in v.lists) s.views ≡ slice_index s.words middle
  -- none has a ticket at or above the word
  pub below : (seat : ℕ) (v : Drawn) → get_elem? s.views seat ≡ some v
      → All (λ l. All (λ t. t < slice_index s.words middle) l) v.lists
  -- each drew its tickets in rising order
  pub rising : (seat : ℕ) (v : Drawn) → get_elem? s.views seat ≡ some v → All Rises v.lists
  -- the ticketers and all that they may still split off are at most 64
  pub seats : sum_by weight s.views ≤ 64
  -- none has more than 2^32 tickets
  pub short : (seat : ℕ) (v : Drawn) → get_elem? s.views seat ≡ some v → All (λ l. length l ≤ 2 ^ 32) v.lists

-- the next ticket is the number found, which is above all that were drawn before through the same
-- ticketer
pub record Draws (st : Step (Unit {0})) (v : Me (Unit {0}) Drawn) (n : ℕ) (w : Me (Unit {0}) Drawn) : Type 0 where
  pub now : w ≡ (drawn ((own v.0 ++ n ∷ []) ∷ []) v.0.spare, v.1)
  pub later : All (λ t. t < n) (own v.0)
  pub small : n < 2 ^ 39

-- the number found is that of all tickets, which are in these lists
pub record Counts (st : Step (Unit {0})) (v : Me (Unit {0}) Drawn) (n : ℕ) (w : Me (Unit {0}) Drawn) : Type 0 where
  pub now : w ≡ v
  pub dealt : AreDealt n v.0.lists

-- ---- what clauses see of a ticketer

pub record TicketerView : Type 0 where
  pub word : TableId
  pub tickets : List ℕ
  -- how many it may still split off
  pub spare : ℕ

-- a ticketer of the word that has drawn nothing
abbrev pub IsNew : TableId → ℕ → TicketerView → Type 0
IsNew word spare t = (t.word ≡ word) × (t.tickets ≡ []) × (t.spare ≡ spare)

-- what clauses see of ticketers that were joined: what each drew, and how many they may still split off
pub record JoinedView : Type 0 where
  pub word : TableId
  pub lists : List (List ℕ)
  pub spare : ℕ
