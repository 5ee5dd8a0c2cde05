-- Whose lines they are that name no thread, as strace writes them to a terminal while it follows one thread alone.
use Rattle.std.specs.Prelude.{ℕ, zero, suc, Bool, true, false, not, ◌&&◌, ◌||◌, List, Option, None, Some, if◌then◌else◌, ◌==◌, is_some, length, map, unwrap_or}
use Rattle.import_forms.specs.Speech.{Spoken}
use Rattle.import_lines.specs.Joining.{speech_at}
use Rattle.import_lines.specs.Lines.{kept_text}
use Rattle.import_lines.specs.Made.{all_makings, maker_of, thread_at}
use Rattle.import_lines.specs.Threads.{renamed}
use Rattle.import_lines.specs.Torn.{ends_by, speaks}
use Rattle.import_lines.specs.declared.made.Making.{Making}

-- line k names no thread, and speaks
abbrev pub is_loose : List Spoken → ℕ → Bool
is_loose all k = (thread_at all k == 0) && speaks (kept_text (speech_at all k).1)

-- one of the first n lines does
abbrev pub has_loose : List Spoken → ℕ → Bool
has_loose all zero = false
has_loose all (suc n) = if is_loose all n then true else has_loose all n

-- one of the first n lines names a thread
abbrev pub has_numbered : List Spoken → ℕ → Bool
has_numbered all zero = false
has_numbered all (suc n) = if thread_at all n == 0 then has_numbered all n else true

-- a thread has a number, and no line says who made it
abbrev pub is_root : List Making → ℕ → Bool
is_root made thread = if thread == 0 then false else not (is_some (maker_of made thread))

-- the last such thread of the first n lines
abbrev pub root_of : List Making → List Spoken → ℕ → Option ℕ
root_of made all zero = None
root_of made all (suc n) = if is_root made (thread_at all n) then Some (thread_at all n) else root_of made all n

-- another one than this
abbrev pub is_other : List Making → ℕ → ℕ → Bool
is_other made root thread = if thread == root then false else is_root made thread

-- one of the first n lines is about another
abbrev pub has_other : List Making → ℕ → List Spoken → ℕ → Bool
has_other made root all zero = false
has_other made root all (suc n) = if is_other made root (thread_at all n) then true else has_other made root all n

-- a loose line is among those from line n on, where one is said to be there, or among the first n lines, behind the thread's end
abbrev pub goes_on : ℕ → List Spoken → Bool → ℕ → Bool
goes_on root all later zero = false
goes_on root all later (suc n) = if thread_at all n == root
    then (if later && ends_by (kept_text (speech_at all n).1) then true else goes_on root all later n)
    else goes_on root all (later || is_loose all n) n

abbrev pub unclear_by : List Making → List Spoken → Option ℕ → Bool
unclear_by made all None = false
unclear_by made all (Some root) = has_other made root all (length all) || goes_on root all false (length all)

-- lines that name no thread speak, and others name one
abbrev pub is_mixed : List Spoken → Bool
is_mixed all = has_numbered all (length all) && has_loose all (length all)

-- Lines that name no thread are about the first one, which shows its number where others are there too. No line says who made it.
abbrev pub root_in : List Spoken → Option ℕ
root_in all = if is_mixed all then root_of (all_makings false all) all (length all) else None

-- that can't be told where several might be the first one, or where it has ended and another goes on
abbrev pub is_unclear : List Spoken → Bool
is_unclear all = unclear_by (all_makings false all) all (root_in all)

-- the lines, each about its thread
abbrev pub owned : List Spoken → List Spoken
owned all = map (renamed (unwrap_or (root_in all) 0)) all
