-- A core's tables as a function of the page, and its TLB
use Rattle.std.specs.Prelude.{◌≡◌, ℕ, ◌/◌, ◌==◌, ◌||◌, Bool, false, if◌then◌else◌, List, Option, None, Some, cond}
use Rattle.vm_base.specs.Pages.{is_page as is_valid}
use Rattle.vm_base.specs.declared.rights.Access.{Access}
use Rattle.mmu.specs.declared.entry.Translation.{Translation}
use Rattle.mmu.specs.declared.tlb.TlbEntry.{TlbEntry}
use Rattle.mmu.specs.declared.translated.Translated.{Translated}
use Rattle.mmu.specs.declared.translated.Translated.TheVariants.{Hit, Fill, Fault}
use Rattle.mmu.specs.Entry.{permits, entry_word}
use Rattle.mmu.specs.Tlb.{tlb_without, tlb_filled, is_at}

-- only valid pages have an entry
abbrev pub on_pages : (ℕ → Option Translation) → ℕ → Option Translation
on_pages entries p = cond (is_valid p) (entries p) None

-- whether a table that may be there has this
abbrev pub in_table : {T : Type 0} → (T → Bool) → Option T → Bool
in_table has None = false
in_table has (Some t) = has t

-- of which pages the table of the last level is there, with the one of this page and of the 511 that
-- share it
abbrev pub with_last_table : ℕ → (ℕ → Bool) → ℕ → Bool
with_last_table p is_there q = q / 512 == p / 512 || is_there q

-- none of the 512 pages has an entry that share the page's table of the last level
abbrev pub IsEmptyBeside : (ℕ → Option Translation) → ℕ → Type 0
IsEmptyBeside table p = (q : ℕ) → q / 512 ≡ p / 512 → table q ≡ None

-- the frame, if the access is permitted
abbrev pub hit : Translation → Access → Translated
hit t access = if permits t access then Hit t.frame else Fault

-- a walk of the tables: a translation that permits the access, or a fault
abbrev pub fill : Option Translation → Access → Translated
fill None access = Fault
fill (Some t) access = if permits t access then Fill t.frame else Fault

-- How an access to a page is translated: the TLB's translation of the page, if there is one,
-- decides alone, and without one the tables'.
abbrev pub translated : Option Translation → Option Translation → Access → Translated
translated (Some cached) entry access = hit cached access
translated None entry access = fill entry access

-- The TLB after it: a fill enters it, and a fault drops the page.
abbrev pub tlb_after : Translated → ℕ → Option Translation → List TlbEntry → List TlbEntry
tlb_after (Hit frame) p entry es = es
tlb_after (Fill frame) p None es = es
tlb_after (Fill frame) p (Some t) es = tlb_filled p t es
tlb_after Fault p entry es = tlb_without (is_at p) es

-- the TLB after the tables were walked for a page without an access
abbrev pub tlb_walked : Option Translation → Option Translation → ℕ → List TlbEntry → List TlbEntry
tlb_walked None (Some t) p es = tlb_filled p t es
tlb_walked _ _ p es = es

-- the 64 bits of an entry
abbrev pub word_of : Option Translation → Option ℕ
word_of None = None
word_of (Some t) = Some (entry_word t)
