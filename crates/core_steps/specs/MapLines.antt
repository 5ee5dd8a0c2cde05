-- The list of mappings of the plain page map to which a machine's log leads
use Rattle.std.specs.Prelude.{◌≡◌, ℕ, ◌-◌, ◌^◌, ◌⊎◌, List}
use Rattle.vm_base.specs.Plain.{Plain}
use Rattle.slot_lock.specs.declared.map_list.MapLine.{MapLine}
use Rattle.vm_base.specs.Runs.{NoneIn}
use Rattle.slot_lock.specs.MapList.{GoesOn, IsMapList, IsNextLine, plain_metas}
use Rattle.machine_model.specs.World.{World}
use Rattle.machine_model.specs.Log.{LeadsTo}

-- of that map: these are all its mappings, in order,
abbrev pub ListsMaps : World → List MapLine → Type 0
ListsMaps w lines = (t : Plain) → LeadsTo w t → IsMapList (plain_metas t) lines

-- no mapping goes across the page, as none does across page 1,
abbrev pub IsLineStart : World → ℕ → Type 0
IsLineStart w from = (from ≡ 1)
    ⊎ ((t : Plain) → LeadsTo w t → ¬ GoesOn (plain_metas t (from - 1)) (plain_metas t from))

-- this is its first mapping that begins at a page or above,
abbrev pub IsNextMap : World → ℕ → MapLine → Type 0
IsNextMap w from line = (t : Plain) → LeadsTo w t → IsNextLine (plain_metas t) from line

-- and no valid page from there on is mapped
abbrev pub HasNoMap : World → ℕ → Type 0
HasNoMap w from = (t : Plain) → LeadsTo w t → NoneIn (plain_metas t) from (2 ^ 35)
