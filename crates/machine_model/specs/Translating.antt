-- What cores do with their tables, TLBs and inboxes (Intel SDM volume 3A, 4-level paging, caching
-- translation information, and propagation of changes to other processors)
use Rattle.std.specs.Prelude.{ℕ, ◌&&◌, Bool, false, not, cond, if◌then◌else◌, List, [], ◌∷◌, ◌++◌}
use Rattle.std.specs.Prelude.{Option, None, Some, is_some}
use Rattle.vm_base.specs.declared.info.PageInfo.{PageInfo}
use Rattle.vm_base.specs.declared.page.PageRange.{PageRange}
use Rattle.vm_base.specs.declared.rights.Prot.{Prot}
use Rattle.vm_base.specs.Cores.{members}
use Rattle.vm_base.specs.Functions.{put, over, has}
use Rattle.slot_lock.specs.declared.plan.Touch.{Touch}
use Rattle.mmu.specs.declared.entry.Translation.{Translation}
use Rattle.mmu.specs.declared.tlb.TlbEntry.{TlbEntry}
use Rattle.mmu.specs.declared.translated.Translated.{Translated}
use Rattle.mmu.specs.declared.translated.Translated.TheVariants as By
use Rattle.mmu.specs.Entry.{translation_of}
use Rattle.mmu.specs.Tables.{translated, tlb_after, tlb_walked}
use Rattle.mmu.specs.Tlb.{tlb_at, tlb_without, is_at}
use Rattle.mmu.specs.declared.message.Message.{Message}
use Rattle.mmu.specs.declared.message.Took.{Took}
use Rattle.mmu.specs.declared.message.Took.TheVariants.{Clear, Invalidate, Idle}
use Rattle.mmu.specs.Messages.{remaining, posted}
use Rattle.machine_model.specs.declared.event.Outcome.{Outcome}
use Rattle.machine_model.specs.World.{World, Hardware}
use Rattle.machine_model.specs.Files.{prot_installed}
use Rattle.machine_model.specs.Actions.{Idles, Becomes}

-- ---- one core's part

abbrev pub with_tlb : Hardware → ℕ → List TlbEntry → Hardware
with_tlb h c tlb = record h { tlb = put h.tlb c tlb }

abbrev pub with_table : Hardware → ℕ → (ℕ → Option Translation) → Hardware
with_table h c table = record h { table = put h.table c table }

abbrev pub with_inbox : Hardware → ℕ → List Message → Hardware
with_inbox h c inbox = record h { inbox = put h.inbox c inbox }

-- core c's tables have no entry of a page of the range
abbrev pub tables_cleared : Hardware → ℕ → PageRange → Hardware
tables_cleared h c range = with_table h c (over (h.table c) (has range) None)

-- core c's TLB has no entry of a page of the range
abbrev pub tlb_invalidated : Hardware → ℕ → PageRange → Hardware
tlb_invalidated h c range = with_tlb h c (tlb_without (has range) (h.tlb c))

-- ---- an access

-- how core c translates it
abbrev pub translated_by : Hardware → ℕ → Touch → Translated
translated_by h c touch = translated (tlb_at (h.tlb c) touch.page) (h.table c touch.page) touch.access

-- the frame that a translation leads to, if it isn't a fault
abbrev pub frame_reached : Translated → Option ℕ
frame_reached (By.Hit f) = Some f
frame_reached (By.Fill f) = Some f
frame_reached By.Fault = None

-- a fill enters the TLB, and a fault drops the page from it
abbrev pub after_translating : Hardware → ℕ → Touch → Hardware
after_translating h c touch =
    with_tlb h c (tlb_after (translated_by h c touch) touch.page (h.table c touch.page) (h.tlb c))

-- the entry that a frame and a protection give
abbrev pub entry_for : Prot → Option ℕ → Option Translation
entry_for prot None = None
entry_for prot (Some f) = Some (translation_of f prot)

-- what the tables get for a mapped page, if it has a frame
abbrev pub entry_of_page : (ℕ → ℕ → Option ℕ) → Option PageInfo → Option Translation
entry_of_page cached None = None
entry_of_page cached (Some info) = entry_for (prot_installed cached info) info.frame

-- ---- a shootdown

-- the cores of the set but core c have its message of the range behind those that they have
abbrev pub inboxes_after : ℕ → ℕ → PageRange → (ℕ → List Message) → ℕ → List Message
inboxes_after c shoot range inbox d =
    if put (members shoot) c false d then inbox d ++ posted c range ∷ [] else inbox d

-- Core c drops its own translations of the range, and asks the other cores of the set to drop
-- theirs.
abbrev pub after_shot : Hardware → ℕ → ℕ → PageRange → Hardware
after_shot h c shoot range =
    let own = tlb_invalidated (tables_cleared h c range) c range in
    record own { inbox = inboxes_after c shoot range h.inbox }

-- ---- events of a core's hardware

abbrev pub with_hardware : Hardware → World → World
with_hardware h w = record w { hardware = h }

-- The oldest message is acted on: at the first take the tables are cleared, at the second the TLB
-- is invalidated.
abbrev pub TakesMessage : World → ℕ → Took → Outcome → World → Type 0
TakesMessage w c (Clear range) o v =
    Becomes
    (with_hardware
    (with_inbox (tables_cleared w.hardware c range) c (remaining (w.hardware.inbox c))) w)
    o v
TakesMessage w c (Invalidate range) o v =
    Becomes
    (with_hardware
    (with_inbox (tlb_invalidated w.hardware c range) c (remaining (w.hardware.inbox c))) w)
    o v
TakesMessage w c Idle o v = Idles w o v

-- the tables have the page, and the TLB hasn't
abbrev pub can_walk : Hardware → ℕ → ℕ → Bool
can_walk h c p = not (is_some (tlb_at (h.tlb c) p)) && is_some (h.table c p)

-- a core's TLB takes in what its tables have for a page
abbrev pub after_walk : Hardware → ℕ → ℕ → Hardware
after_walk h c p = with_tlb h c (tlb_walked (tlb_at (h.tlb c) p) (h.table c p) p (h.tlb c))

-- the core's TLB gets the translation that its tables have, or the core is idle
abbrev pub Walks : World → ℕ → ℕ → Outcome → World → Type 0
Walks w c p o v =
    cond (can_walk w.hardware c p) (Becomes (with_hardware (after_walk w.hardware c p) w) o v)
    (Idles w o v)

-- an entry leaves a core's TLB, and its tables stay
abbrev pub after_eviction : Hardware → ℕ → ℕ → Hardware
after_eviction h c p = with_tlb h c (tlb_without (is_at p) (h.tlb c))

-- the core's TLB drops the page, or the core is idle
abbrev pub Evicts : World → ℕ → ℕ → Outcome → World → Type 0
Evicts w c p o v =
    cond (is_some (tlb_at (w.hardware.tlb c) p))
    (Becomes (with_hardware (after_eviction w.hardware c p) w) o v)
    (Idles w o v)
