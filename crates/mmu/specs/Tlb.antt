-- A TLB: the translations that a core holds, the oldest filled first
use Rattle.std.specs.Prelude.{ℕ, ◌==◌, ◌&&◌, not, Bool, true, is_some, if◌then◌else◌, length}
use Rattle.std.specs.Prelude.{List, [], ◌∷◌, ◌++◌, Option, None, Some, drop, filter}
use Rattle.std.specs.Prelude.{bit_xor, ◌/◌, ◌%◌, ◌^◌}
use Rattle.mmu.specs.declared.entry.Translation.{Translation}
use Rattle.mmu.specs.declared.tlb.TlbEntry.{TlbEntry}

-- the translation of a page, if the TLB has one
abbrev pub tlb_at : List TlbEntry → ℕ → Option Translation
tlb_at [] p = None
tlb_at (e ∷ es) p = if e.page == p then Some e.translation else tlb_at es p

-- no page has two translations
abbrev pub are_distinct : List TlbEntry → Bool
are_distinct [] = true
are_distinct (e ∷ es) = not (is_some (tlb_at es e.page)) && are_distinct es

-- without the pages of a set
abbrev pub tlb_without : (ℕ → Bool) → List TlbEntry → List TlbEntry
tlb_without s es = filter (λ (e : TlbEntry). not (s e.page)) es

-- the one page
abbrev pub is_at : ℕ → ℕ → Bool
is_at p q = q == p

-- with one translation more, the oldest filled making room
abbrev pub tlb_filled : ℕ → Translation → List TlbEntry → List TlbEntry
tlb_filled p e es =
    (if length es == 64 then drop 1 es else es) ++ record { page = p; translation = e } ∷ []

-- a number below 64 for each page: four times six bits of the page's number, in one by xor
unfoldable pub page_hash : ℕ → ℕ
page_hash p = bit_xor (bit_xor p (p / 2 ^ 12)) (bit_xor p (p / 2 ^ 12) / 2 ^ 6) % 64
