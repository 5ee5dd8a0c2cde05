-- The mappings around a page.
use Rattle.std.specs.Prelude.{◌≡◌, ℕ, ◌^◌, ◌<◌, ◌≤◌, ◌⊎◌, ⊤, List, [], ◌∷◌, length, Option}
use Rattle.vm_base.specs.declared.info.Meta.{Meta}
use Rattle.slot_lock.specs.MapList.{ListsLines}
use Rattle.slot_lock.specs.declared.map_list.MapLine.{MapLine}

-- they all end behind the page
abbrev pub AreBehind : ℕ → List MapLine → Type 0
AreBehind page [] = ⊤
AreBehind page (x ∷ xs) = (page < x.range.end) × AreBehind page xs

-- The first of them ends at the page or before, unless it is the first of all mappings; the others end behind the page.
abbrev pub AreNear : ℕ → ℕ → List MapLine → Type 0
AreNear first page [] = first ≡ 1
AreNear first page (x ∷ xs) = ((first ≡ 1) ⊎ (x.range.end ≤ page)) × AreBehind page xs

-- These are all mappings from one page up to another, in order: from the last one on that ends at the page or before, or
-- from the first of all on, if none does. They are four, or the last ones.
pub record IsAround (meta : ℕ → Option Meta) (page : ℕ) (shown : List MapLine) : Type 0 where
  pub first : ℕ
  pub end : ℕ
  pub lists : ListsLines meta first end shown
  pub near : AreNear first page shown
  pub all : (length shown ≡ 4) ⊎ (end ≡ 2 ^ 35)
