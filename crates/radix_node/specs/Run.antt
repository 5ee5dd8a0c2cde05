-- A tree of slots, seen as its slots that are no child, in order of pages
use Rattle.std.specs.Prelude.{◌≡◌, ℕ, ◌+◌, ◌*◌, ◌-◌, ◌/◌, ◌^◌, ◌<◌, ◌≤◌, ◌==◌, nat_lt, true}
use Rattle.std.specs.Prelude.{if◌then◌else◌, List, [], ◌∷◌, ◌++◌, map}
use Rattle.std.specs.List.{range_with_len}
use Rattle.vm_base.specs.Info.{is_leaf, info_file_page}
use Rattle.radix_node.specs.State.{State, no_state, state_from, IsPlain}

-- how many pages a slot of the level has
abbrev pub width_of : ℕ → ℕ
width_of level = 2 ^ (9 * level)

-- a slot that is no child, and how many pages it has
pub record Run : Type 0 where
  pub width : ℕ
  pub state : State

abbrev pub total : List Run → ℕ
total [] = 0
total (r ∷ rs) = r.width + total rs

-- the slot that has a page, and how many pages of it lie before that page
pub record Cell : Type 0 where
  pub state : State
  pub offset : ℕ
  pub width : ℕ

-- the slot of the page with this number; behind the last slot, pages on their own
abbrev pub cell_at : List Run → ℕ → Cell
cell_at [] page = record { state = no_state; offset = 0; width = 1 }
cell_at (r ∷ rs) page =
    if nat_lt page r.width
    then record { state = r.state; offset = page; width = r.width }
    else cell_at rs (page - r.width)

-- ---- changes of one slot

-- the runs, with others in place of the one that has the page
abbrev pub with_run : (Run → List Run) → List Run → ℕ → List Run
with_run f [] page = []
with_run f (r ∷ rs) page =
    if nat_lt page r.width then f r ++ rs else r ∷ with_run f rs (page - r.width)

-- the run in another state
abbrev pub in_state : State → Run → List Run
in_state s r = (record { width = r.width; state = s }) ∷ []

-- n slots of w pages that carry on what one slot says
abbrev pub carried : ℕ → State → ℕ → List Run
carried w s n = map (λ k. record { width = w; state = state_from s (k * w) }) (range_with_len 0 n)

-- a node's slots, where they carry on what one slot says
unfoldable pub divided : ℕ → State → List Run
divided w s = carried w s 512

-- the run as 512 slots
abbrev pub in_parts : Run → List Run
in_parts r = divided (r.width / 512) r.state

-- 512 slots of w pages carry on what one slot says
abbrev pub IsCarried : ℕ → State → List Run → Type 0
IsCarried w s rs =
    (k : ℕ) → k < 512
    → cell_at rs (k * w) ≡ record { state = state_from s (k * w); offset = 0; width = w }

-- 512 plain slots that carry on what their first says were joined to one
pub record FoldsRuns (old new : List Run) (page : ℕ) : Type 0 where
  pub plain : IsPlain (cell_at new page).state
  pub large : 1 < (cell_at new page).width
  pub parts : old ≡ with_run in_parts new page

-- A node of a lower level than this, which has the page, has no child, and its slots are plain and
-- carry on what the first says
pub record CanFoldRuns (level : ℕ) (rs : List Run) (page : ℕ) : Type 0 where
  pub own_level : ℕ
  pub low : own_level < level
  pub state : State
  pub plain : IsPlain state
  pub before : ℕ
  pub from : before * width_of (own_level + 1) ≤ page
  pub until : page < before * width_of (own_level + 1) + width_of (own_level + 1)
  pub slots : (k : ℕ) → k < 512
      → cell_at rs (before * width_of (own_level + 1) + k * width_of own_level)
      ≡ record
      { state = state_from state (k * width_of own_level); offset = 0; width = width_of own_level }

-- ---- what holds of each slot

-- the file pages of its pages are numbers, and only a slot of one page has a frame or a recorded
-- core
pub record FitsWidth (width : ℕ) (s : State) : Type 0 where
  pub fits : info_file_page s.info + width ≤ 2 ^ 36
  pub alone : is_leaf s.info ≡ true → width ≡ 1

-- the level whose slots have so many pages
abbrev pub level_of : ℕ → ℕ
level_of width =
    if width == 1 then 0 else (if width == 512 then 1 else (if width == 2 ^ 18 then 2 else 3))

-- the slot that has the page is one of a level up to this one, and begins at a multiple of its
-- pages
pub record IsCell (level page : ℕ) (c : Cell) : Type 0 where
  pub low : level_of c.width ≤ level
  pub width_is : c.width ≡ width_of (level_of c.width)
  pub place : page ≡ page / c.width * c.width + c.offset
  pub within : c.offset < c.width
  pub sound : FitsWidth c.width c.state

-- so many pages, all in slots of levels up to this one
pub record IsWhole (level pages : ℕ) (rs : List Run) : Type 0 where
  pub pages_are : total rs ≡ pages
  pub cells : (page : ℕ) → page < pages → IsCell level page (cell_at rs page)
