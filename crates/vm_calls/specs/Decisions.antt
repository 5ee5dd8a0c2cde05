-- What a call decides that holds its pages
use Rattle.std.specs.Prelude.{◌≡◌, ℕ, ◌+◌, ◌↔◌, true, false, Option, None, Some, is_some}
use Rattle.vm_base.specs.declared.page.PageRange.{PageRange}
use Rattle.vm_base.specs.declared.info.PageInfo.{PageInfo}
use Rattle.vm_base.specs.declared.rights.Prot.{Prot}
use Rattle.vm_base.specs.declared.replies.Errno.TheVariants.{ENOMEM, EACCES}
use Rattle.vm_base.specs.Cores.{members}
use Rattle.vm_base.specs.Functions.{has}
use Rattle.vm_base.specs.Info.{info_from}
use Rattle.vm_base.specs.Pages.{pages_from}
use Rattle.vm_base.specs.Plain.{File, PageEntry, is_mapped}
use Rattle.vm_base.specs.Places.{IsFree, IsLeastRoom}
use Rattle.vm_base.specs.Apply.{HasPage, is_absent, is_read_only}
use Rattle.slot_lock.specs.declared.plan.Change.{Change}
use Rattle.slot_lock.specs.declared.plan.Change.TheVariants.{Put, Clear, Protect}
use Rattle.slot_lock.specs.declared.plan.Place.{Place}
use Rattle.slot_lock.specs.declared.plan.Target.{Target}
use Rattle.slot_lock.specs.declared.plan.Target.TheVariants.{Hint, Run, Window}
use Rattle.slot_lock.specs.declared.plan.Goal.{Goal}
use Rattle.slot_lock.specs.declared.plan.Goal.TheVariants as To
use Rattle.slot_lock.specs.Plan.{IsSoundPut, IsSoundChange, range_of}
use Rattle.slot_lock.specs.Slots.{Slots, IsUser}
use Rattle.vm_calls.specs.declared.decision.Decision.{Decision}
use Rattle.vm_calls.specs.declared.decision.Decision.TheVariants.{Refuse, Act, Again}

-- ---- what may be read

-- The pages may be asked for, and within a slot the mapping goes on from page to page, as in every
-- slot map. Of other pages nothing is said: a few slots may have been lent.
pub record IsReadable (reads : ℕ → Type 0) (s : Slots) (r : PageRange) : Type 0 where
  pub reads_all : (p : ℕ) → has r p ≡ true → reads p
  pub goes_on : (p : ℕ) → has r p ≡ true → has r (p + 1) ≡ true → s.edge (p + 1) ≡ false
      → s.info (p + 1) ≡ info_from (s.info p) 1

-- the goal isn't an access
abbrev pub IsNoAccess : Goal → Type 0
IsNoAccess (To.Place place target) = Unit {0}
IsNoAccess (To.Change change) = Unit {0}
IsNoAccess (To.Access touch) = ⊥

-- ---- what slots say of the plain map's entries

-- the entry of a page, which a slot shows apart from its own bytes
abbrev pub entry_of : Option PageInfo → Option PageEntry
entry_of None = None
entry_of (Some info) = Some (record { back = info.meta.back; prot = info.meta.prot; own = None })

-- what the slots have at each page
abbrev pub entries : Slots → ℕ → Option PageEntry
entries s p = entry_of (s.info p)

-- the slots say the same of each page of the range
abbrev pub AreAlike : PageRange → Slots → Slots → Type 0
AreAlike r s t = (p : ℕ) → has r p ≡ true → s.info p ≡ t.info p

-- ---- decisions

-- what the pages of the range are changed to can be: there is some page, all are valid, and file
-- pages fit
abbrev pub IsSoundAct : Goal → Decision → Type 0
IsSoundAct goal (Refuse e) = Unit {0}
IsSoundAct goal Again = Unit {0}
IsSoundAct (To.Place place target) (Act range shoot) = IsSoundPut range place.meta
IsSoundAct (To.Change change) (Act range shoot) = IsSoundChange change × (range ≡ range_of change)
IsSoundAct (To.Access touch) (Act range shoot) = ⊥

-- the call changes the range, and shoots just the cores that are recorded on some page of it
abbrev pub ActsOn : Slots → PageRange → Decision → Type 0
ActsOn s range (Refuse e) = ⊥
ActsOn s range Again = ⊥
ActsOn s range (Act changes shoot) =
    (changes ≡ range) × ((core : ℕ) → (members shoot core ≡ true) ↔ IsUser s range core)

-- some page of the range is mapped
abbrev pub HasMapped : (ℕ → Option PageEntry) → PageRange → Type 0
HasMapped entry r = HasPage is_some entry r

-- Under a hint or a guessed run a mapping goes there, if no page of it is mapped, and else looks
-- elsewhere. Unmapped pages have no recorded core.
pub data DecidesRun (s : Slots) (range : PageRange) (d : Decision) : Type 0 where
  free : IsFree (is_mapped (entries s)) range → d ≡ Act range 0 → DecidesRun s range d
  taken : HasMapped (entries s) range → d ≡ Again → DecidesRun s range d

-- the pages of the room that was found, or the refusal where there is none
abbrev pub act_at : Option ℕ → ℕ → Decision
act_at None n = Refuse ENOMEM
act_at (Some first) n = Act (pages_from first n) 0

-- with its window held it goes to the least room there, or is refused where there is none
abbrev pub DecidesWindow : Slots → Place → Decision → Type 0
DecidesWindow s place d =
    (found : Option ℕ) × IsLeastRoom (is_mapped (entries s)) place.window place.count found
    × (d ≡ act_at found place.count)

-- the hinted or guessed run if it is free, else the first in the window
abbrev pub DecidesPlace : Slots → Place → Target → Decision → Type 0
DecidesPlace s place (Hint range) d = DecidesRun s range d
DecidesPlace s place (Run range) d = DecidesRun s range d
DecidesPlace s place Window d = DecidesWindow s place d

-- another protection is refused as by the plain map
pub data DecidesProtect (files : ℕ → Option File) (s : Slots) (range : PageRange) (prot : Prot)
    (d : Decision) : Type 0 where
  no_page : HasPage is_absent (entries s) range → d ≡ Refuse ENOMEM
      → DecidesProtect files s range prot d
  no_write : ¬ HasPage is_absent (entries s) range → prot.write ≡ true
      → HasPage (is_read_only files) (entries s) range → d ≡ Refuse EACCES
      → DecidesProtect files s range prot d
  acts : ¬ HasPage is_absent (entries s) range
      → (prot.write ≡ true → ¬ HasPage (is_read_only files) (entries s) range) → ActsOn s range d
      → DecidesProtect files s range prot d

-- mmap and munmap change their pages; mprotect first looks whether it may
abbrev pub DecidesChange : (ℕ → Option File) → Slots → Change → Decision → Type 0
DecidesChange files s (Put range meta) d = ActsOn s range d
DecidesChange files s (Clear range) d = ActsOn s range d
DecidesChange files s (Protect range prot) d = DecidesProtect files s range prot d

-- what is decided for a goal, whose pages the call holds
abbrev pub Decides : (ℕ → Option File) → Slots → Goal → Decision → Type 0
Decides files s (To.Place place target) d = DecidesPlace s place target d
Decides files s (To.Change change) d = DecidesChange files s change d
Decides files s (To.Access touch) d = ⊥

-- of a change of one page that has this, whatever the others have
abbrev pub DecidesPage : (ℕ → Option File) → Change → Option PageInfo → Decision → Type 0
DecidesPage files change info d =
    (s : Slots) → s.info (range_of change).first ≡ info → DecidesChange files s change d
