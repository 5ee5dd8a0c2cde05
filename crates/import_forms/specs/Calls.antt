-- What logs of strace and of lackey have in common: the calls by their names, and bits as Linux numbers them.
use Rattle.std.specs.Prelude.{ℕ, ◌/◌, ◌%◌, Bool, true, false, not, ◌||◌, Option, None, Some, if◌then◌else◌, ◌==◌, codes, option_map}
use Rattle.std.specs.Str.{bytes_eq}
use Rattle.vm_base.specs.declared.rights.Prot.{Prot}
use Rattle.vm_base.specs.declared.requests.Flags.{Flags}
use Rattle.vm_base.specs.declared.requests.Request.{Request}
use Rattle.import_forms.specs.Tokens.{Token}
use Rattle.import_forms.specs.declared.calls.Call.{Call}
use Rattle.import_forms.specs.declared.calls.Call.TheVariants as Of
use Rattle.import_forms.specs.declared.said.Lost.{Lost}
use Rattle.import_forms.specs.declared.said.Lost.TheVariants as Lose
use Rattle.import_forms.specs.declared.said.Said.{Said}
use Rattle.import_forms.specs.declared.said.Said.TheVariants as Says

-- ---- the calls that change what is mapped, each by its name

-- those whose every success no trace has
abbrev pub lost_named : Token → Option Lost
lost_named name = if bytes_eq name (codes "remap_file_pages") then Some Lose.Remaps
    else if bytes_eq name (codes "userfaultfd") then Some Lose.Faults
    else if bytes_eq name (codes "io_setup") || bytes_eq name (codes "io_destroy") then Some Lose.Others
    else None

abbrev pub call_named : Token → Option Call
call_named name = if bytes_eq name (codes "mmap") then Some Of.Mmap
    else if bytes_eq name (codes "munmap") then Some Of.Munmap
    else if bytes_eq name (codes "mprotect") then Some Of.Mprotect
    else if bytes_eq name (codes "brk") then Some Of.Brk
    else if bytes_eq name (codes "mremap") then Some Of.Mremap
    else if bytes_eq name (codes "pkey_mprotect") then Some Of.Keyed
    else if bytes_eq name (codes "madvise") then Some Of.Advise
    else option_map Of.Lost (lost_named name)

-- ---- bits

-- a bit is set, which is given as its value
abbrev pub has_bit : ℕ → ℕ → Bool
has_bit bit bits = bits / bit % 2 == 1

-- PROT_READ is 1, PROT_WRITE 2, PROT_EXEC 4
abbrev pub rights_of : ℕ → Prot
rights_of bits = record { read = has_bit 1 bits; write = has_bit 2 bits; exec = has_bit 4 bits }

-- MAP_SHARED is 1, MAP_PRIVATE 2, MAP_SHARED_VALIDATE 3, MAP_ANONYMOUS 32; the kernel has placed the mapping
abbrev pub flags_of : ℕ → Flags
flags_of bits = record { private = bits % 4 == 2; shared = has_bit 1 bits; fixed = true; anon = has_bit 32 bits }

-- MAP_HUGETLB is 2^18, MAP_GROWSDOWN 256
abbrev pub lost_of : ℕ → Option Lost
lost_of bits = if has_bit 262144 bits then Some Lose.Huge else if has_bit 256 bits then Some Lose.Grows else None

-- private or shared, and not both
abbrev pub has_kind : Flags → Bool
has_kind flags = if flags.private then not flags.shared else flags.shared

-- one kind, pages of the usual size, and a mapping that doesn't grow by itself
abbrev pub is_plain : Flags → Option Lost → Bool
is_plain flags None = has_kind flags
is_plain flags (Some lost) = false

-- advice that takes the pages of a range away at once: MADV_DONTNEED is 4, and MADV_DONTNEED_LOCKED 24
abbrev pub clears : ℕ → Bool
clears advice = (advice == 4) || (advice == 24)

-- advice that drops bytes at a moment that no log has, or of a file: MADV_FREE is 8, and MADV_REMOVE 9
abbrev pub drops : ℕ → Bool
drops advice = (advice == 8) || (advice == 9)

-- ---- what is said

-- a request, or a line that cannot be read
abbrev pub asked : Option Request → Said
asked (Some request) = Says.Asks request
asked None = Says.Unread

-- rights with a key, or a line that cannot be read
abbrev pub keyed : Option Request → Said
keyed (Some request) = Says.Keyed request
keyed None = Says.Unread

-- a call that isn't read: what no trace has of it, if that is known
abbrev pub lost_or_unread : Option Lost → Said
lost_or_unread (Some lost) = Says.Loses lost
lost_or_unread None = Says.Unread
