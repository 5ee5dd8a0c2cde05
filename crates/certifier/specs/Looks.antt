-- How far slots were looked at
use Rattle.std.specs.Prelude.{◌≡◌, ◌⊎◌, ℕ, ◌+◌, ◌<◌, ◌≤◌, true, false, List, length, take, get_or, Option}
use Rattle.vm_base.specs.declared.info.PageInfo.{PageInfo}
use Rattle.live_levels.specs.declared.act.SlotChange.{SlotChange}
use Rattle.live_levels.specs.declared.close.SlotHistory.{SlotHistory}
use Rattle.live_levels.specs.Replay.{replay}
use Rattle.certifier.specs.declared.looks.Look.{Look}
use Rattle.certifier.specs.Histories.{AreDated, DiffersBelow, HasBegun, HasContent, IsFirstPageOf, IsPageOf, ticket_at, up_to}

-- the changes with tickets below the bound were applied
pub record AreApplied (bound : ℕ) (changes : List SlotChange) (look : Look) : Type 0 where
  pub within : look.applied ≤ length changes
  pub content : look.content ≡ replay (take look.applied changes)
  pub before : (k : ℕ) → k < look.applied → ticket_at changes k < bound
  pub later : (k : ℕ) → look.applied ≤ k → k < length changes → bound ≤ ticket_at changes k

module _ {A : Type 0} (n : ℕ) (maps : ℕ → ℕ → Option PageInfo) (now : ℕ → Option PageInfo) (t : ℕ) where
  -- What is known of a slot before the event with ticket t, where pages have `now`: it went along with
  -- the events below `seen`, and since then its pages have had what they have now
  pub record IsSeen (bound : ℕ) (s : SlotHistory A) (look : Look) : Type 0 where
    pub dated : AreDated n s.changes.items
    pub applied : AreApplied bound s.changes.items look
    pub seen : look.seen ≤ t
    pub agrees : (u : ℕ) → u < look.seen → HasBegun u s.changes.items
        → HasContent s (maps u) (replay (up_to u s.changes.items))
    pub still : (u page : ℕ) → look.seen ≤ u → u < t → IsPageOf s page → maps u page ≡ now page

  -- a slot that is marked strays, and what is known of the others
  pub record IsLooked (s : SlotHistory A) (look : Look) : Type 0 where
    pub bad : look.is_bad ≡ true → (¬ AreDated n s.changes.items) ⊎ DiffersBelow t maps s
    pub good : look.is_bad ≡ false → IsSeen look.seen s look

  -- each slot has its look
  pub record AreLooked (slots : List (SlotHistory A)) (looks : List Look) : Type 0 where
    pub count : length looks ≡ length slots
    pub each : (k : ℕ) (d : SlotHistory A) (l : Look) → k < length slots
        → IsLooked (get_or slots k d) (get_or looks k l)

module _ {A : Type 0} where
  -- no slot with valid pages is marked among those up to the place
  abbrev pub NoneMarked : ℕ → List (SlotHistory A) → List Look → Type 0
  NoneMarked end slots looks = (k : ℕ) (d : SlotHistory A) (l : Look) (page : ℕ) → k < end
      → IsPageOf (get_or slots k d) page → (get_or looks k l).is_bad ≡ false

  -- the page is the first of the first slot with valid pages that is marked
  pub record IsFirstMarked (slots : List (SlotHistory A)) (looks : List Look) (page : ℕ) : Type 0 where
    pub at : ℕ
    pub within : at < length slots
    pub marked : (l : Look) → (get_or looks at l).is_bad ≡ true
    pub page_of : (d : SlotHistory A) → IsFirstPageOf (get_or slots at d) page
    pub before : NoneMarked at slots looks

-- the look has come to the ticket, or the slot is marked
abbrev pub IsCaughtUp : ℕ → Look → Type 0
IsCaughtUp t look = look.is_bad ≡ false → t ≤ look.seen
