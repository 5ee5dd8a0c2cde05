-- The frame that a core reaches
use Rattle.std.specs.Prelude.{◌≡◌, ℕ, List, Option, Some}
use Rattle.mmu.specs.declared.entry.Translation.{Translation}
use Rattle.mmu.specs.declared.tlb.TlbEntry.{TlbEntry}
use Rattle.mmu.specs.Tables.{translated}
use Rattle.mmu.specs.Tlb.{tlb_at}
use Rattle.slot_lock.specs.declared.plan.Touch.{Touch}
use Rattle.machine_model.specs.Translating.{frame_reached}

-- a core with these tables and this TLB translates the access to this frame
abbrev pub Reaches : (ℕ → Option Translation) → List TlbEntry → Touch → ℕ → Type 0
Reaches table tlb touch frame = frame_reached (translated (tlb_at tlb touch.page) (table touch.page) touch.access) ≡ Some frame
