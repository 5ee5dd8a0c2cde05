-- Slots as plain data: what lies under a slot's lock
use Rattle.std.specs.Prelude.{◌≡◌, ℕ, ◌+◌, ◌-◌, ◌<◌, ◌≤◌, ◌^◌, Bool, false, List, [], ◌∷◌, ◌++◌, Option}
use Rattle.vm_base.specs.declared.info.PageInfo.{PageInfo}
use Rattle.vm_base.specs.Info.{file_page, info_file_page, info_from, is_leaf}
use Rattle.live_levels.specs.declared.act.Act.{Act}
use Rattle.live_levels.specs.declared.act.Act.TheVariants.{Put, Clear, Protect, Frame, Copy, Record}
use Rattle.live_levels.specs.declared.act.SlotChange.{SlotChange}
use Rattle.live_levels.specs.Replay.{after, replay}

-- a slot: its pages, its owner, what its first page has, its changes, how many more fit without
-- memory, and whether it was divided, so that others have its pages
pub record SlotView : Type 0 where
  pub first : ℕ
  pub count : ℕ
  pub owner : Option ℕ
  pub content : Option PageInfo
  pub changes : List SlotChange
  pub room : ℕ
  pub divided : Bool

abbrev pub slot_view : ℕ → ℕ → Option ℕ → Option PageInfo → List SlotChange → ℕ → Bool → SlotView
slot_view first count owner content changes room divided = record {
  first = first;
  count = count;
  owner = owner;
  content = content;
  changes = changes;
  room = room;
  divided = divided;
}

-- What holds of every slot whose lock is free: its content is the replay of its history; it has
-- pages, whose file pages are numbers; and a page with a frame or a recorded core is a slot of its
-- own
pub record IsSlotView (s : SlotView) : Type 0 where
  pub replays : s.content ≡ replay s.changes
  pub some : 1 ≤ s.count
  pub place : s.first + s.count ≤ 2 ^ 36
  pub fits : info_file_page s.content + s.count ≤ 2 ^ 36
  pub alone : 1 < s.count → is_leaf s.content ≡ false

-- the act can be done to a slot of so many pages
abbrev pub Suits : Act → ℕ → Type 0
Suits (Put meta) count = file_page meta.back + count ≤ 2 ^ 36
Suits Clear count = Unit {0}
Suits (Protect prot) count = Unit {0}
Suits (Frame frame) count = count ≡ 1
Suits (Copy frame) count = count ≡ 1
Suits (Record core) count = count ≡ 1

-- the slot after one more change
abbrev pub changed : SlotView → SlotChange → SlotView
changed s c =
    record s { content = after s.content c.act; changes = s.changes ++ c ∷ []; room = s.room - 1 }

-- what a page of the slot has
abbrev pub content_at : SlotView → ℕ → Option PageInfo
content_at s page = info_from s.content (page - s.first)

-- the slot isn't divided, and has the page
pub record HasPage (s : SlotView) (page : ℕ) : Type 0 where
  pub whole : s.divided ≡ false
  pub from : s.first ≤ page
  pub until : page < s.first + s.count
