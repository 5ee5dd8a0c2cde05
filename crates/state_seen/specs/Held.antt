-- What a core holds beside its tables, and what deeds do to it
use Rattle.std.specs.Prelude.{ℕ, Bool, List, [], ◌∷◌, ◌++◌, Option, cond, false, slice_index_or}
use Rattle.vm_base.specs.declared.page.PageRange.{PageRange}
use Rattle.vm_base.specs.Cores.{members}
use Rattle.vm_base.specs.Functions.{has, put}
use Rattle.slot_lock.specs.declared.plan.Touch.{Touch}
use Rattle.mmu.specs.declared.entry.Translation.{Translation}
use Rattle.mmu.specs.declared.tlb.TlbEntry.{TlbEntry}
use Rattle.mmu.specs.Tables.{tlb_after, tlb_walked, translated}
use Rattle.mmu.specs.Tlb.{is_at, tlb_at, tlb_without}
use Rattle.mmu.specs.declared.message.Message.{Message}
use Rattle.mmu.specs.declared.message.Took.{Took}
use Rattle.mmu.specs.declared.message.Took.TheVariants.{Clear, Invalidate, Idle}
use Rattle.mmu.specs.Messages.{asked, posted, remaining}
use Rattle.state_seen.specs.declared.deed.HardwareStep.{HardwareStep}
use Rattle.state_seen.specs.declared.deed.HardwareStep.TheVariants.{Nothing, Translate, Shoot, Take, Walk, Evict}

-- a core's TLB, the oldest filled first, and its inbox, the oldest message first
pub record Holds : Type 0 where
  pub tlb : List TlbEntry
  pub inbox : List Message

abbrev pub nothing_held : Holds
nothing_held = record { tlb = []; inbox = [] }

-- what each core holds; one that isn't there holds nothing
abbrev pub held : List Holds → ℕ → Holds
held all c = slice_index_or all c nothing_held

-- ---- what happens to one core

-- a TLB after an access to a page of which the tables have this entry
abbrev pub translated_on : Touch → Option Translation → List TlbEntry → List TlbEntry
translated_on touch entry es =
    tlb_after (translated (tlb_at es touch.page) entry touch.access) touch.page entry es

-- and after they were walked for it
abbrev pub walked : ℕ → Option Translation → List TlbEntry → List TlbEntry
walked page entry es = tlb_walked (tlb_at es page) entry page es

-- and after a message was acted on
abbrev pub invalidated : Took → List TlbEntry → List TlbEntry
invalidated (Clear range) es = es
invalidated (Invalidate range) es = tlb_without (has range) es
invalidated Idle es = es

-- the oldest message was acted on
abbrev pub taken : Holds → Holds
taken h = record { tlb = invalidated (asked h.inbox) h.tlb; inbox = remaining h.inbox }

-- a core asks this one to drop the range
abbrev pub told : ℕ → PageRange → Holds → Holds
told from range h = record h { inbox = h.inbox ++ posted from range ∷ [] }

-- ---- deeds

-- what a deed does to the core whose deed it is
abbrev pub own_part : HardwareStep → Holds → Holds
own_part Nothing h = h
own_part (Translate c touch entry) h = record h { tlb = translated_on touch entry h.tlb }
own_part (Shoot c set range) h = record h { tlb = tlb_without (has range) h.tlb }
own_part (Take c) h = taken h
own_part (Walk c page entry) h = record h { tlb = walked page entry h.tlb }
own_part (Evict c page) h = record h { tlb = tlb_without (is_at page) h.tlb }

-- a core is told, or not
abbrev pub told_one : ℕ → Bool → PageRange → (ℕ → Holds) → ℕ → ℕ → Holds
told_one from is_told range h c = cond is_told (put h c (told from range (h c))) h

-- each core of a set is told
abbrev pub told_by : ℕ → (ℕ → Bool) → PageRange → (ℕ → Holds) → ℕ → Holds
told_by from to range h d = cond (to d) (told from range (h d)) (h d)

-- what a deed does to all
abbrev pub done : HardwareStep → (ℕ → Holds) → ℕ → Holds
done Nothing h = h
done (Translate c touch entry) h = put h c (own_part (Translate c touch entry) (h c))
done (Shoot c set range) h =
    told_by c (put (members set) c false) range (put h c (own_part (Shoot c set range) (h c)))
done (Take c) h = put h c (own_part (Take c) (h c))
done (Walk c page entry) h = put h c (own_part (Walk c page entry) (h c))
done (Evict c page) h = put h c (own_part (Evict c page) (h c))
