-- Slots that are made one again
use Rattle.std.specs.Prelude.{◌≡◌, ℕ, ◌+◌, ◌-◌, false, [], ◌∷◌, Option, Some, None}
use Rattle.vm_base.specs.declared.info.PageInfo.{PageInfo}
use Rattle.vm_base.specs.Info.{info_from, is_leaf, unused}
use Rattle.live_levels.specs.declared.act.Act.{Act}
use Rattle.live_levels.specs.declared.act.Act.TheVariants.{Put, Clear}
use Rattle.live_levels.specs.declared.joint.Foldable.{Foldable}
use Rattle.live_levels.specs.Replay.{dated, replay}
use Rattle.live_levels.specs.Slots.{SlotView}

-- the slot can be a part of a larger one: nobody is to lock it first, and it has no frame and no
-- recorded core
pub record CanBegin (s : SlotView) : Type 0 where
  pub free : s.owner ≡ None
  pub no_leaf : is_leaf s.content ≡ false

-- the slot follows on: it can be a part, begins where the others end, and its mapping goes on from
-- theirs
pub record CanFollow (j : Foldable) (s : SlotView) : Type 0 where
  pub part : CanBegin s
  pub next : s.first ≡ j.end
  pub goes_on : s.content ≡ info_from j.content (s.first - j.first)

-- the slot can be the first part, or one more
abbrev pub CanJoin : Option Foldable → SlotView → Type 0
CanJoin None s = CanBegin s
CanJoin (Some j) s = CanFollow j s

-- what the parts are together with the slot
abbrev pub Joins : Option Foldable → SlotView → Foldable → Type 0
Joins None s k = (k.first ≡ s.first) × (k.end ≡ s.first + s.count) × (k.content ≡ s.content)
Joins (Some j) s k = (k.first ≡ j.first) × (k.end ≡ j.end + s.count) × (k.content ≡ j.content)

-- the change with which a slot begins that stands for its parts: it is mapped as the first page is,
-- or unmapped
abbrev pub begun_act : Option PageInfo → Act
begun_act None = Clear
begun_act (Some info) = Put info.meta

-- the slot has just the pages of the parts
abbrev pub HasPagesOf : Foldable → SlotView → Type 0
HasPagesOf j s = (j.first ≡ s.first) × (j.end ≡ s.first + s.count)

-- the slot stands for its parts: it has what they have, by a history of one change under the ticket,
-- and isn't divided any more
pub record StandsFor (j : Foldable) (ticket : ℕ) (s t : SlotView) : Type 0 where
  pub pages : HasPagesOf j s
  pub place : (t.first ≡ s.first) × (t.count ≡ s.count)
  pub owner : t.owner ≡ None
  pub content : t.content ≡ j.content
  pub changes : t.changes ≡ dated ticket (begun_act j.content) ∷ []
  pub whole : t.divided ≡ false
