-- A history as a text: the mappings that its first calls leave, and the lines of the others
use Rattle.std.specs.Prelude.{◌≡◌, ℕ, suc, ◌≤◌, ◌⊎◌, ◌&&◌, Bool, true, false, List, [], ◌∷◌, ◌++◌, drop, if◌then◌else◌, length, min, nat_lt, take}
use Rattle.vm_base.specs.Places.{PlaceRule}
use Rattle.vm_base.specs.Plain.{Plain}
use Rattle.slot_lock.specs.MapList.{IsMapList, plain_metas}
use Rattle.slot_lock.specs.declared.map_list.MapLine.{MapLine}
use Rattle.vm_base.specs.declared.replies.Reply.{Reply}
use Rattle.vm_base.specs.declared.replies.Reply.TheVariants.{Mapped}
use Rattle.audit.specs.Judging.{AreReplies, IsFirstWrong}
use Rattle.audit.specs.declared.auditor.Call.{Call}
use Rattle.audit.specs.declared.auditor.Wrong.{Wrong}
use Rattle.orders.specs.declared.history.Timed.{Timed}
use Rattle.trace_text.specs.Lists.{map_line}
use Rattle.core_text.specs.Told.{numbered_text}

-- each of these calls began after this time
abbrev pub are_behind : ℕ → List Timed → Bool
are_behind end [] = true
are_behind end (c ∷ cs) = nat_lt end c.begin && are_behind end cs

abbrev pub is_mapped : Reply → Bool
is_mapped (Mapped at) = true
is_mapped reply = false

-- how many first calls there are that mapped pages, and each ended before all behind it began
abbrev pub first_mapped : List Timed → ℕ
first_mapped [] = 0
first_mapped (c ∷ cs) = if is_mapped c.call.reply && are_behind c.end cs then suc (first_mapped cs) else 0

-- those of them that have lines
abbrev pub most_first : List Timed → List ℕ → ℕ
most_first calls numbers = min (first_mapped calls) (length numbers)

abbrev pub without_times : List Timed → List Call
without_times [] = []
without_times (c ∷ cs) = c.call ∷ without_times cs

abbrev pub mappings_text : List MapLine → List ℕ
mappings_text [] = []
mappings_text (m ∷ ms) = map_line m.range m.prot m.back ++ mappings_text ms

-- the mappings of the plain page map to which the first calls lead, from this one on
pub record HasMappings (rule : PlaceRule) (t : Plain) (first : List Call) (mappings : List MapLine) : Type 0 where
  pub left : Plain
  pub replies : AreReplies rule t first left
  pub listed : IsMapList (plain_metas left) mappings

-- one of the replies isn't the plain page map's
abbrev pub AreWrong : PlaceRule → Plain → List Call → Type 0
AreWrong rule t calls = (wrong : Wrong) × (u : Plain) × IsFirstWrong rule t calls wrong u

-- So are told those of so many first calls, and the lines of the others, by the numbers of the lines of all. These are the first calls that mapped
-- pages, each of which ended before all behind it began; or fewer, where some reply of all these isn't the plain page map's.
pub record IsStory (rule : PlaceRule) (t : Plain) (calls : List Timed) (lines : List (List ℕ)) (numbers told : List ℕ) : Type 0 where
  pub count : ℕ
  pub few : count ≤ most_first calls numbers
  pub most : (count ≡ most_first calls numbers) ⊎ AreWrong rule t (without_times (take (most_first calls numbers) calls))
  pub mappings : List MapLine
  pub has : HasMappings rule t (without_times (take count calls)) mappings
  pub text : told ≡ mappings_text mappings ++ numbered_text lines (drop count numbers)
