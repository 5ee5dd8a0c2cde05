-- Whether the calls of a test may find no frame.
use Rattle.std.specs.Prelude.{ℕ, ◌+◌, ◌-◌, ◌^◌, ◌==◌, ◌&&◌, Bool, false, List, Option, None, Some, count_by, min, nat_le, nat_lt, not, sum_by}
use Rattle.vm_base.specs.Pages.{page_of}
use Rattle.vm_base.specs.Requests.{is_access}
use Rattle.vm_base.specs.declared.requests.Request.{Request}
use Rattle.vm_base.specs.declared.requests.Request.TheVariants.{Load, Store, Fetch, Mmap, Munmap, Mprotect}
use Rattle.litmus_merges.specs.declared.asked.Asked.{Asked}
use Rattle.trace_text.specs.declared.action.Action.TheVariants.{Call}
use Rattle.trace_text.specs.declared.line.Line.{Line}
use Rattle.trace_text.specs.declared.line.Line.TheVariants.{Act, Now}
use Rattle.trace_words.specs.Declarations.{DeclarationView}
use Rattle.litmus_text.specs.Scripts.{Read}

-- the page of an access
abbrev pub page_accessed : Request → Option ℕ
page_accessed (Load addr) = Some (page_of addr)
page_accessed (Store addr byte) = Some (page_of addr)
page_accessed (Fetch addr) = Some (page_of addr)
page_accessed request = None

-- one of so many bytes from this address on is in the page; no address is above 2^64 - 1
abbrev pub is_of : ℕ → ℕ → ℕ → Bool
is_of addr len page = nat_le (page_of addr) page && nat_le page (page_of (min (addr + (len - 1)) (2 ^ 64 - 1)))

-- a call of a range that has the page
abbrev pub has_page : Request → ℕ → Bool
has_page (Mmap addr len prot flags file off) page = is_of addr len page
has_page (Munmap addr len) page = is_of addr len page
has_page (Mprotect addr len prot) page = is_of addr len page
has_page request page = false

-- another core's call of such a range
abbrev pub is_other : ℕ → ℕ → Asked → Bool
is_other core page call = not (call.core == core) && has_page call.request page

abbrev pub taken_at : List Asked → ℕ → Option ℕ → ℕ
taken_at calls core None = 0
taken_at calls core (Some page) = 1 + count_by (is_other core page) calls

-- how many frames a call may take: an access one, and one more for each other core's call of a range with its page
abbrev pub taken_by : List Asked → Asked → ℕ
taken_by calls call = taken_at calls call.core (page_accessed call.request)

-- the line of an opening is of an access
abbrev pub is_access_line : Line → Bool
is_access_line (Now core request) = is_access request
is_access_line (Act core (Call request)) = is_access request
is_access_line line = false

-- how many frames an opening and the calls of the lists may take: an access of the opening one
abbrev pub frames_taken : List Line → List Asked → ℕ
frames_taken opening calls = count_by is_access_line opening + sum_by (taken_by calls) calls

-- how many are declared
abbrev pub frames_of : Option DeclarationView → ℕ
frames_of None = 0
frames_of (Some asked) = asked.frames

-- They may take more than there are. This is counted up to 2^64 - 1.
abbrev pub may_lack : Read → Bool
may_lack r = nat_lt (frames_of r.asked) (min (frames_taken r.opening r.calls) (2 ^ 64 - 1))
