-- The list of mappings, as a user sees them: neighbouring pages are one line where the second goes
-- on from the first
use Rattle.std.specs.Prelude.{◌≡◌, ℕ, ◌-◌, ◌^◌, ◌<◌, ◌≤◌, List, [], ◌∷◌, Option, None, Some}
use Rattle.vm_base.specs.declared.info.Meta.{Meta}
use Rattle.vm_base.specs.Runs.{NoneIn}
use Rattle.vm_base.specs.Info.{advance}
use Rattle.vm_base.specs.Pages.{IsPageRange}
use Rattle.vm_base.specs.Plain.{PageEntry, Plain}
use Rattle.slot_lock.specs.declared.map_list.MapLine.{MapLine}

-- what a page of a plain page map is mapped to, if it is mapped
abbrev pub entry_meta : Option PageEntry → Option Meta
entry_meta None = None
entry_meta (Some e) = Some (record { back = e.back; prot = e.prot })

abbrev pub plain_metas : Plain → ℕ → Option Meta
plain_metas t p = entry_meta (t.entry p)

-- ---- lines

-- The second page goes on from the first, which is mapped: it has the same protection, and the next
-- page of the same file, shared or private as the first; after an anonymous page an anonymous one.
abbrev pub GoesOn : Option Meta → Option Meta → Type 0
GoesOn None next = ⊥
GoesOn (Some meta) next = next ≡ Some (advance meta 1)

-- what the line's first page is mapped to
abbrev pub line_meta : MapLine → Meta
line_meta line = record { back = line.back; prot = line.prot }

-- The line's pages are valid ones, mapped one after another from its first on, and it can't be made
-- longer at either end.
pub record IsLine (meta : ℕ → Option Meta) (line : MapLine) : Type 0 where
  pub pages : IsPageRange line.range
  pub mapped : (p : ℕ) → line.range.first ≤ p → p < line.range.end
      → meta p ≡ Some (advance (line_meta line) (p - line.range.first))
  pub begins : ¬ GoesOn (meta (line.range.first - 1)) (meta line.range.first)
  pub ends : ¬ GoesOn (meta (line.range.end - 1)) (meta line.range.end)

-- the first line that begins at a page or above, and no page is mapped from there up to it
pub record IsNextLine (meta : ℕ → Option Meta) (from : ℕ) (line : MapLine) : Type 0 where
  pub is : IsLine meta line
  pub low : from ≤ line.range.first
  pub before : NoneIn meta from line.range.first

-- these are the lines from first up to end, in order, and no other page there is mapped
abbrev pub ListsLines : (ℕ → Option Meta) → ℕ → ℕ → List MapLine → Type 0
ListsLines meta first end [] = NoneIn meta first end
ListsLines meta first end (x ∷ xs) =
    IsNextLine meta first x × (x.range.end ≤ end) × ListsLines meta x.range.end end xs

-- the list of all mappings: the lines of all valid pages
abbrev pub IsMapList : (ℕ → Option Meta) → List MapLine → Type 0
IsMapList meta lines = ListsLines meta 1 (2 ^ 35) lines
