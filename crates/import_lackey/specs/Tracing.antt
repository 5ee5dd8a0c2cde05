-- What a line of lackey becomes: requests of a trace, a change, or a reason for which it is left out.
use Rattle.std.specs.Prelude.{ℕ, ◌+◌, ◌-◌, ◌*◌, ◌/◌, ◌^◌, Bool, true, false, ◌&&◌, ◌||◌, List, [], ◌∷◌, ◌++◌, Option, None}
use Rattle.std.specs.Prelude.{Some, if◌then◌else◌, ◌==◌, nat_lt, nat_le, decimal}
use Rattle.std.specs.List.{list_any}
use Rattle.std.specs.Option.{option_to_list}
use Rattle.trace_io.specs.Lines.{lines_of}
use Rattle.vm_base.specs.declared.rights.Prot.{Prot}
use Rattle.vm_base.specs.declared.requests.Flags.{Flags}
use Rattle.vm_base.specs.declared.requests.Request.{Request}
use Rattle.vm_base.specs.declared.requests.Request.TheVariants as Of
use Rattle.import_steps.specs.Counts.{counted, no_counts}
use Rattle.import_steps.specs.Taking.{SoFar, after_file, after_said, asked_by, nothing_taken, so_far}
use Rattle.import_steps.specs.declared.counts.LineCounts.{LineCounts}
use Rattle.import_forms.specs.declared.said.Said.{Said}
use Rattle.import_forms.specs.declared.said.Said.TheVariants as Says
use Rattle.import_steps.specs.declared.taking.Reason.TheVariants as For
use Rattle.import_steps.specs.declared.taking.Fate.{Fate}
use Rattle.import_steps.specs.declared.taking.Fate.TheVariants.{Kept, Left}
use Rattle.import_lackey.specs.Heard.{heard_of}
use Rattle.import_lackey.specs.declared.heard.LackeyAccess.{LackeyAccess}
use Rattle.import_lackey.specs.declared.heard.LackeyAccess.TheVariants.{Fetch, Load, Store, Modify}
use Rattle.import_lackey.specs.declared.heard.LackeyTouch.{LackeyTouch}
use Rattle.import_lackey.specs.declared.heard.Heard.{Heard}
use Rattle.import_lackey.specs.declared.heard.Heard.TheVariants.{Touches, Calls}
use Rattle.import_lackey.specs.declared.tracing.Mapped.{Mapped}
use Rattle.import_lackey.specs.declared.tracing.Traced.{Traced}

-- what was taken so far, and all that was mapped at some time
pub record State : Type 0 where
  pub taken : SoFar
  pub mapped : List Mapped

abbrev pub state_of : Traced → State
state_of t = record { taken = so_far t.taken; mapped = t.mapped.items }

-- ---- accesses

-- the first address of the page
abbrev pub page_of : ℕ → ℕ
page_of addr = addr / 4096 * 4096

-- some byte of the page is in the range
abbrev pub covers : ℕ → Mapped → Bool
covers page range = nat_lt range.addr (page + 4096) && nat_lt page (range.addr + range.len)

-- some byte of the page was mapped at some time
abbrev pub is_mapped : ℕ → List Mapped → Bool
is_mapped page mapped = list_any (covers page) mapped

-- a page that was there before the first line: it is anonymous, and all may be done with it
abbrev pub there : ℕ → Request
there page = Of.Mmap page 4096 (record { read = true; write = true; exec = true })
    (record { private = true; shared = false; fixed = true; anon = true }) 0 0

-- a page that is accessed and that no line has mapped was there before the first
abbrev pub touched : State → ℕ → State
touched s page = if is_mapped page s.mapped then s
    else record { taken = asked_by s.taken 1 (there page); mapped = s.mapped ++ record { addr = page; len = 4096 } ∷ [] }

-- the access of a byte; what is stored isn't in the log, and is 0
abbrev pub asked_for : LackeyAccess → ℕ → Request
asked_for Fetch addr = Of.Fetch addr
asked_for Load addr = Of.Load addr
asked_for Store addr = Of.Store addr 0
asked_for Modify addr = Of.Store addr 0

abbrev pub with_asked : State → Request → State
with_asked s request = record { taken = asked_by s.taken 1 request; mapped = s.mapped }

abbrev pub touched_at : State → LackeyAccess → ℕ → State
touched_at s access addr = with_asked (touched s (page_of addr)) (asked_for access addr)

-- the first byte, and where the bytes go on into the next page, the first byte there
abbrev pub accessed : State → LackeyAccess → ℕ → ℕ → State
accessed s access addr size =
    let first = touched_at s access addr in
    if nat_lt (page_of addr + 4096) (addr + size) then touched_at first access (page_of addr + 4096) else first

-- what is modified is loaded, and then stored
abbrev pub all_accessed : State → LackeyAccess → ℕ → ℕ → State
all_accessed s Fetch addr size = accessed s Fetch addr size
all_accessed s Load addr size = accessed s Load addr size
all_accessed s Store addr size = accessed s Store addr size
all_accessed s Modify addr size = accessed (accessed s Load addr size) Store addr size

-- some bytes, at most a page, within the addresses of a trace
abbrev pub is_whole : LackeyTouch → Bool
is_whole t = if (t.size == 0) || nat_lt 4096 t.size then false
    else if nat_lt t.addr 4096 then false else nat_le (t.addr + t.size) (2 ^ 47)

abbrev pub touch_taken : State → LackeyTouch → State × Fate
touch_taken s t = if is_whole t then (all_accessed s t.access t.addr t.size, Kept) else (s, Left For.Unread)

-- ---- calls

-- what a call maps, where the heap ended there before
abbrev pub placed : Option ℕ → Said → Option Mapped
placed end (Says.Asks (Of.Mmap addr len prot flags file off)) = Some (record { addr = addr; len = len })
placed end (Says.Asks (Of.Munmap addr len)) = None
placed end (Says.Asks (Of.Mprotect addr len prot)) = None
placed end (Says.Asks (Of.Load addr)) = None
placed end (Says.Asks (Of.Store addr value)) = None
placed end (Says.Asks (Of.Fetch addr)) = None
placed (Some old) (Says.Breaks to) = Some (record { addr = old; len = to - old })
placed None (Says.Breaks to) = None
placed end (Says.Moves from old to new stays) = Some (record { addr = to; len = new })
placed end (Says.Makes child shares joins) = None
placed end Says.Begins = None
placed end (Says.Keyed request) = None
placed end (Says.Sizes number len) = None
placed end (Says.Attaches number addr prot) = None
placed end (Says.Detaches addr) = None
placed end (Says.Clears addr len) = None
placed end (Says.Loses lost) = None
placed end Says.Ends = None
placed end Says.Fails = None
placed end Says.Unread = None
placed end Says.Other = None

-- a mapping of no file, or of the file of this descriptor
abbrev pub mmap_taken : SoFar → ℕ → ℕ → Prot → Flags → ℕ → ℕ → SoFar × Fate
mmap_taken s addr len prot flags descriptor off = if flags.anon
    then (asked_by s 1 (Of.Mmap addr len prot flags 0 off), Kept)
    else after_file s 1 (decimal descriptor) addr len prot flags off

-- no log has a program that begins
abbrev pub call_taken : SoFar → Said → SoFar × Fate
call_taken s (Says.Asks (Of.Mmap addr len prot flags file off)) = mmap_taken s addr len prot flags file off
call_taken s (Says.Asks (Of.Munmap addr len)) = (asked_by s 1 (Of.Munmap addr len), Kept)
call_taken s (Says.Asks (Of.Mprotect addr len prot)) = (asked_by s 1 (Of.Mprotect addr len prot), Kept)
call_taken s (Says.Asks (Of.Load addr)) = (asked_by s 1 (Of.Load addr), Kept)
call_taken s (Says.Asks (Of.Store addr value)) = (asked_by s 1 (Of.Store addr value), Kept)
call_taken s (Says.Asks (Of.Fetch addr)) = (asked_by s 1 (Of.Fetch addr), Kept)
call_taken s (Says.Breaks to) = after_said nothing_taken s 1 [] (Says.Breaks to)
call_taken s (Says.Moves from old to new stays) = after_said nothing_taken s 1 [] (Says.Moves from old to new stays)
call_taken s (Says.Makes child shares joins) = (s, Left For.Other)
call_taken s Says.Begins = (s, Left For.Other)
call_taken s (Says.Keyed request) = after_said nothing_taken s 1 [] (Says.Keyed request)
call_taken s (Says.Sizes number len) = after_said nothing_taken s 1 [] (Says.Sizes number len)
call_taken s (Says.Attaches number addr prot) = after_said nothing_taken s 1 [] (Says.Attaches number addr prot)
call_taken s (Says.Detaches addr) = after_said nothing_taken s 1 [] (Says.Detaches addr)
call_taken s (Says.Clears addr len) = after_said nothing_taken s 1 [] (Says.Clears addr len)
call_taken s Says.Ends = (s, Left For.Other)
call_taken s (Says.Loses lost) = (s, Left (For.Lost lost))
call_taken s Says.Fails = (s, Left For.Failed)
call_taken s Says.Unread = (s, Left For.Unread)
call_taken s Says.Other = (s, Left For.Other)

abbrev pub with_taken : List Mapped → SoFar × Fate → State × Fate
with_taken mapped after = (record { taken = after.0; mapped = mapped }, after.1)

-- ---- lines

abbrev pub heard_taken : State → Heard → State × Fate
heard_taken s (Touches touch) = touch_taken s touch
heard_taken s (Calls said) = with_taken (s.mapped ++ option_to_list (placed s.taken.heap_end said)) (call_taken s.taken said)

abbrev pub counted_with : LineCounts → State × Fate → State × LineCounts
counted_with counts after = (after.0, counted counts after.1)

-- after these lines
abbrev pub traced_with : State × LineCounts → List (List ℕ) → State × LineCounts
traced_with s [] = s
traced_with s (line ∷ lines) = traced_with (counted_with s.1 (heard_taken s.0 (heard_of line))) lines

-- what is taken of a log, and how many of its lines became what
abbrev pub trace_of : List ℕ → State × LineCounts
trace_of log = traced_with (record { taken = nothing_taken; mapped = [] }, no_counts) (lines_of log)
