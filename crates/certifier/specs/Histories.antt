-- Histories of slots beside what pages had in a run
use Rattle.std.specs.Prelude.{◌≡◌, ◌≢◌, ◌⊎◌, ℕ, ◌+◌, ◌-◌, ◌<◌, ◌≤◌, nat_le, List, [], ◌∷◌, length, filter, get_or, Option}
use Rattle.vm_base.specs.declared.info.PageInfo.{PageInfo}
use Rattle.vm_base.specs.Info.{info_from}
use Rattle.vm_base.specs.Pages.{IsPage}
use Rattle.live_levels.specs.declared.act.Act.TheVariants.{Clear}
use Rattle.live_levels.specs.declared.act.SlotChange.{SlotChange}
use Rattle.live_levels.specs.declared.close.SlotHistory.{SlotHistory}
use Rattle.live_levels.specs.Replay.{dated, replay}

-- ---- tickets

-- the ticket of the change with this index
abbrev pub ticket_at : List SlotChange → ℕ → ℕ
ticket_at changes k = (get_or changes k (dated 0 Clear)).ticket

-- the tickets rise, and are below n
pub record AreDated (n : ℕ) (changes : List SlotChange) : Type 0 where
  pub rise : (j k : ℕ) → j < k → k < length changes → ticket_at changes j < ticket_at changes k
  pub below : (k : ℕ) → k < length changes → ticket_at changes k < n

-- the changes with tickets up to t
abbrev pub up_to : ℕ → List SlotChange → List SlotChange
up_to t changes = filter (λ change. nat_le change.ticket t) changes

-- the first change has a ticket up to t, or there is none
abbrev pub HasBegun : ℕ → List SlotChange → Type 0
HasBegun t [] = Unit {0}
HasBegun t (change ∷ later) = change.ticket ≤ t

module _ {A : Type 0} where
  -- ---- pages

  -- the page is a valid one of the slot
  pub record IsPageOf (s : SlotHistory A) (page : ℕ) : Type 0 where
    pub valid : IsPage page
    pub from : s.first ≤ page
    pub until : page < s.first + s.count

  -- the slot's first valid page
  pub record IsFirstPageOf (s : SlotHistory A) (page : ℕ) : Type 0 where
    pub has : IsPageOf s page
    pub first : (p : ℕ) → IsPageOf s p → page ≤ p

  -- each slot ends where a later one begins, or before
  abbrev pub AreInOrder : List (SlotHistory A) → Type 0
  AreInOrder slots = (j k : ℕ) (d : SlotHistory A) → j < k → k < length slots
      → (get_or slots j d).first + (get_or slots j d).count ≤ (get_or slots k d).first

  -- the slot's valid pages have what goes on from this
  abbrev pub HasContent : SlotHistory A → (ℕ → Option PageInfo) → Option PageInfo → Type 0
  HasContent s info content =
      (page : ℕ) → IsPageOf s page → info page ≡ info_from content (page - s.first)

  -- ---- a slot beside a run, of which `maps t` is what pages have after the event with ticket t

  -- The slot went the way of the run: its tickets rise and are below n, and for each ticket from its
  -- first change on (from 0 where it has none) its pages have what its changes up to then come to
  pub record GoesAlong (n : ℕ) (maps : ℕ → ℕ → Option PageInfo) (s : SlotHistory A) : Type 0 where
    pub dated : AreDated n s.changes.items
    pub agrees : (t : ℕ) → t < n → HasBegun t s.changes.items
        → HasContent s (maps t) (replay (up_to t s.changes.items))

  -- a page of the slot has something else after an event with a ticket below n
  pub record DiffersBelow (n : ℕ) (maps : ℕ → ℕ → Option PageInfo) (s : SlotHistory A) : Type 0 where
    pub ticket : ℕ
    pub page : ℕ
    pub within : ticket < n
    pub begun : HasBegun ticket s.changes.items
    pub has : IsPageOf s page
    pub differs : maps ticket page ≢ info_from (replay (up_to ticket s.changes.items)) (page - s.first)

  -- the tickets don't rise or aren't all below n, or a page has something else
  abbrev pub Strays : ℕ → (ℕ → ℕ → Option PageInfo) → SlotHistory A → Type 0
  Strays n maps s = (¬ AreDated n s.changes.items) ⊎ DiffersBelow n maps s

  -- each slot with valid pages went the way of the run
  abbrev pub AllGoAlong : ℕ → (ℕ → ℕ → Option PageInfo) → List (SlotHistory A) → Type 0
  AllGoAlong n maps slots = (k : ℕ) (d : SlotHistory A) (page : ℕ) → k < length slots
      → IsPageOf (get_or slots k d) page → GoesAlong n maps (get_or slots k d)

  -- the page is the first of the first slot that didn't
  pub record IsFirstAstray (n : ℕ) (maps : ℕ → ℕ → Option PageInfo) (slots : List (SlotHistory A)) (page : ℕ)
      : Type 0 where
    pub at : ℕ
    pub within : at < length slots
    pub page_of : (d : SlotHistory A) → IsFirstPageOf (get_or slots at d) page
    pub strays : (d : SlotHistory A) → Strays n maps (get_or slots at d)
    pub before : (k : ℕ) (d : SlotHistory A) (p : ℕ) → k < at → IsPageOf (get_or slots k d) p
        → GoesAlong n maps (get_or slots k d)
