-- The calls of a log with their replies: what one more call adds.
use Rattle.std.specs.Prelude.{ℕ, ◌+◌, ◌-◌, ◌*◌, ◌^◌, ◌/◌, ◌%◌, Bool, true, false, ◌||◌, List, [], ◌∷◌, ◌++◌, Option, None, Some, if◌then◌else◌, ◌==◌}
use Rattle.std.specs.Prelude.{nat_lt, nat_le, length, max, min}
use Rattle.std.specs.List.{flat_map}
use Rattle.vm_base.specs.declared.rights.Prot.{Prot}
use Rattle.vm_base.specs.declared.requests.Flags.{Flags}
use Rattle.vm_base.specs.declared.requests.Request.{Request}
use Rattle.vm_base.specs.declared.requests.Request.TheVariants as Asks
use Rattle.vm_base.specs.declared.replies.Reply.{Reply}
use Rattle.vm_base.specs.declared.replies.Reply.TheVariants as Replied
use Rattle.import_forms.specs.Replies.{asked_of, is_fixed_move, refused_of}
use Rattle.import_forms.specs.declared.replies.RefusedCall.{RefusedCall}
use Rattle.import_forms.specs.declared.said.Lost.TheVariants as Lose
use Rattle.import_forms.specs.declared.said.Said.{Said}
use Rattle.import_forms.specs.declared.said.Said.TheVariants as Says
use Rattle.import_steps.specs.Taking.{place_of, rounded}
use Rattle.import_steps.specs.declared.taking.LineChange.TheVariants.{Heap, Move, File, Key}
use Rattle.import_steps.specs.declared.taking.Reason.TheVariants as For
use Rattle.import_steps.specs.declared.taking.Fate.{Fate}
use Rattle.import_steps.specs.declared.taking.Fate.TheVariants.{Kept, Changed, Left}
use Rattle.import_lackey.specs.declared.replies.CallTimes.{CallTimes}
use Rattle.import_lackey.specs.declared.replies.Interval.{Interval}
use Rattle.import_lackey.specs.declared.replies.PageRange.{PageRange}
use Rattle.import_lackey.specs.declared.replies.RepliedCall.{RepliedCall}
use Rattle.import_lackey.specs.declared.replies.Replies.{Replies}

-- what calls said so far: threads in the order of their first call, the heap's end once known, the ranges that calls mapped, none of
-- which has a page of another, and the calls with their replies
pub record RepliedSoFar : Type 0 where
  pub threads : List ℕ
  pub heap_end : Option ℕ
  pub known : List PageRange
  pub calls : List RepliedCall

-- what the code keeps, as a value
abbrev pub replied_so_far : Replies → RepliedSoFar
replied_so_far r = record { threads = r.threads.items; heap_end = r.heap_end; known = r.known.items; calls = r.calls.items }

-- before the first call
abbrev pub nothing_replied : Option ℕ → RepliedSoFar
nothing_replied heap_end = record { threads = []; heap_end = heap_end; known = []; calls = [] }

-- ---- which pages calls have mapped

-- the pages of so many bytes from an address on, where both are at most 2^47
abbrev pub range_at : ℕ → ℕ → Option PageRange
range_at addr len = if nat_lt (2 ^ 47) addr || nat_lt (2 ^ 47) len then None
    else Some (record { start = addr; end = (addr + len + 4095) / 4096 * 4096 })

-- a range, where it isn't empty
abbrev pub range_within : ℕ → ℕ → List PageRange
range_within start end = if nat_lt start end then record { start = start; end = end } ∷ [] else []

-- what of a range is outside of another
abbrev pub outside : PageRange → PageRange → List PageRange
outside gone r = range_within r.start (min r.end gone.start) ++ range_within (max r.start gone.end) r.end

abbrev pub without : Option PageRange → List PageRange → List PageRange
without None known = known
without (Some gone) known = flat_map (outside gone) known

abbrev pub with_range : List PageRange → Option PageRange → List PageRange
with_range known None = known
with_range known (Some r) = known ++ r ∷ []

-- the range in which an mmap of so many bytes has mapped
abbrev pub if_mapped : ℕ → Reply → Option PageRange
if_mapped len (Replied.Mapped at) = range_at at len
if_mapped len Replied.Done = None
if_mapped len (Replied.Byte value) = None
if_mapped len (Replied.Refused errno) = None
if_mapped len (Replied.Segv code) = None
if_mapped len Replied.Bus = None
if_mapped len Replied.NoFrame = None
if_mapped len Replied.NoMemory = None

-- the range that a munmap has unmapped
abbrev pub if_done : ℕ → ℕ → Reply → Option PageRange
if_done addr len (Replied.Mapped at) = None
if_done addr len Replied.Done = range_at addr len
if_done addr len (Replied.Byte value) = None
if_done addr len (Replied.Refused errno) = None
if_done addr len (Replied.Segv code) = None
if_done addr len Replied.Bus = None
if_done addr len Replied.NoFrame = None
if_done addr len Replied.NoMemory = None

-- the range that a call unmaps, or in which it maps
abbrev pub range_changed : Request → Reply → Option PageRange
range_changed (Asks.Mmap addr len prot flags file off) reply = if_mapped len reply
range_changed (Asks.Munmap addr len) reply = if_done addr len reply
range_changed (Asks.Mprotect addr len prot) reply = None
range_changed (Asks.Load addr) reply = None
range_changed (Asks.Store addr value) reply = None
range_changed (Asks.Fetch addr) reply = None

-- the range in which a call maps
abbrev pub range_mapped : Request → Reply → Option PageRange
range_mapped (Asks.Mmap addr len prot flags file off) reply = if_mapped len reply
range_mapped (Asks.Munmap addr len) reply = None
range_mapped (Asks.Mprotect addr len prot) reply = None
range_mapped (Asks.Load addr) reply = None
range_mapped (Asks.Store addr value) reply = None
range_mapped (Asks.Fetch addr) reply = None

-- after a call
abbrev pub known_after : List PageRange → Request → Reply → List PageRange
known_after known request reply = with_range (without (range_changed request reply) known) (range_mapped request reply)

-- how many bytes two ranges have in common
abbrev pub common : PageRange → PageRange → ℕ
common a b = min a.end b.end - max a.start b.start

-- how many of n bytes of a range are left without those that are known
abbrev pub uncovered : PageRange → ℕ → List PageRange → ℕ
uncovered r n [] = n
uncovered r n (k ∷ known) = uncovered r (n - common r k) known

abbrev pub covers : List PageRange → Option PageRange → Bool
covers known None = false
covers known (Some r) = uncovered r (r.end - r.start) known == 0

-- ---- one more call

-- the thread's call, on a core of its own; the 65th thread shares the first one's
abbrev pub answered : RepliedSoFar → ℕ → CallTimes → Request → Reply → RepliedSoFar
answered s thread at request reply = record {
  threads = if place_of thread s.threads == length s.threads then s.threads ++ thread ∷ [] else s.threads;
  heap_end = s.heap_end;
  known = known_after s.known request reply;
  calls = s.calls ++ record { core = place_of thread s.threads % 64; at = at; request = request; reply = reply } ∷ [];
}

-- the halves of a time
abbrev pub first_half : Interval → Interval
first_half i = record { begin = i.begin; end = i.begin + (i.end - i.begin) / 2 }

-- (numbers have 64 bits)
abbrev pub second_half : Interval → Interval
second_half i = record { begin = min (i.begin + (i.end - i.begin) / 2 + 1) (2 ^ 64 - 1); end = i.end }

abbrev pub some_half : (Interval → Interval) → Option Interval → Option Interval
some_half half None = None
some_half half (Some i) = Some (half i)

abbrev pub half_times : (Interval → Interval) → CallTimes → CallTimes
half_times half at = record { lines = half at.lines; times = some_half half at.times }

-- new pages of no file, where the kernel placed them
abbrev pub pages_asked : ℕ → ℕ → Bool → Request
pages_asked addr len fixed = Asks.Mmap addr len (record { read = true; write = true; exec = false })
    (record { private = true; shared = false; fixed = fixed; anon = true }) 0 0

abbrev pub mapped_at : RepliedSoFar → ℕ → CallTimes → ℕ → ℕ → Bool → RepliedSoFar
mapped_at s thread at addr len fixed = answered s thread at (pages_asked addr len fixed) (Replied.Mapped addr)

abbrev pub unmapped_at : RepliedSoFar → ℕ → CallTimes → ℕ → ℕ → RepliedSoFar
unmapped_at s thread at addr len = answered s thread at (Asks.Munmap addr len) Replied.Done

-- an end of pages was at one address, and is at another
abbrev pub end_moved : Fate → RepliedSoFar → ℕ → CallTimes → ℕ → ℕ → RepliedSoFar × Fate
end_moved fate s thread at old new = if nat_lt old new then (mapped_at s thread at old (new - old) false, fate)
    else if nat_lt new old then (unmapped_at s thread at new (old - new), fate)
    else (s, Left For.Still)

abbrev pub with_end : RepliedSoFar → ℕ → RepliedSoFar
with_end s end = record { threads = s.threads; heap_end = Some end; known = s.known; calls = s.calls }

-- a heap's first end is only noted
abbrev pub heap_replied : RepliedSoFar → ℕ → CallTimes → Option ℕ → ℕ → RepliedSoFar × Fate
heap_replied s thread at None new = (with_end s new, Left For.Still)
heap_replied s thread at (Some old) new = end_moved (Changed Heap) (with_end s new) thread at old new

abbrev pub break_replied : RepliedSoFar → ℕ → CallTimes → ℕ → RepliedSoFar × Fate
break_replied s thread at to = if nat_lt (2 ^ 47) to then (s, Left For.Unread) else heap_replied s thread at s.heap_end (rounded to)

-- A mapping that moves is an unmapping and a mapping, each in one half of the time. Where its old place stays mapped it is a mapping.
abbrev pub moved_replied : RepliedSoFar → ℕ → CallTimes → ℕ → ℕ → ℕ → ℕ → Bool → Bool → RepliedSoFar × Fate
moved_replied s thread at from old to new stays fixed =
    if stays then (mapped_at s thread at to new fixed, Changed Move)
    else if from == to then end_moved (Changed Move) s thread at (from + old) (from + new)
    else (mapped_at (unmapped_at s thread (half_times first_half at) from old) thread (half_times second_half at) to new fixed, Changed Move)

abbrev pub move_replied : RepliedSoFar → ℕ → CallTimes → ℕ → ℕ → ℕ → ℕ → Bool → Bool → RepliedSoFar × Fate
move_replied s thread at from old to new stays fixed =
    if nat_lt (2 ^ 47) from || nat_lt (2 ^ 47) old || nat_lt (2 ^ 47) to || nat_lt (2 ^ 47) new then (s, Left For.Unread)
    else moved_replied s thread at from (rounded old) to (rounded new) stays fixed

-- a mapping of a file is one of no file
abbrev pub mapping_fate : Flags → Fate
mapping_fate flags = if flags.anon then Kept else Changed File

-- an mmap gave this address, and asked for this
abbrev pub mapping_replied : RepliedSoFar → ℕ → CallTimes → ℕ → Fate → Option Request → RepliedSoFar × Fate
mapping_replied s thread at addr fate None = (s, Left For.Unread)
mapping_replied s thread at addr fate (Some request) = (answered s thread at request (Replied.Mapped addr), fate)

-- mprotect of pages that no call mapped is left out: the kernel mapped them where the program began
abbrev pub protect_replied : RepliedSoFar → ℕ → CallTimes → Request → Fate → Bool → RepliedSoFar × Fate
protect_replied s thread at request fate true = (answered s thread at request Replied.Done, fate)
protect_replied s thread at request fate false = (s, Left For.Unmapped)

-- the rights of a range were changed
abbrev pub rights_replied : RepliedSoFar → ℕ → CallTimes → Request → Fate → RepliedSoFar × Fate
rights_replied s thread at (Asks.Mprotect addr len prot) fate =
    protect_replied s thread at (Asks.Mprotect addr len prot) fate (covers s.known (range_at addr len))
rights_replied s thread at (Asks.Mmap addr len prot flags file off) fate = (s, Left For.Other)
rights_replied s thread at (Asks.Munmap addr len) fate = (s, Left For.Other)
rights_replied s thread at (Asks.Load addr) fate = (s, Left For.Other)
rights_replied s thread at (Asks.Store addr value) fate = (s, Left For.Other)
rights_replied s thread at (Asks.Fetch addr) fate = (s, Left For.Other)

-- a request that succeeded
abbrev pub request_replied : RepliedSoFar → ℕ → CallTimes → List ℕ → Request → RepliedSoFar × Fate
request_replied s thread at text (Asks.Mmap addr len prot flags file off) = mapping_replied s thread at addr (mapping_fate flags) (asked_of text)
request_replied s thread at text (Asks.Munmap addr len) = (unmapped_at s thread at addr len, Kept)
request_replied s thread at text (Asks.Mprotect addr len prot) = rights_replied s thread at (Asks.Mprotect addr len prot) Kept
request_replied s thread at text (Asks.Load addr) = rights_replied s thread at (Asks.Load addr) Kept
request_replied s thread at text (Asks.Store addr value) = rights_replied s thread at (Asks.Store addr value) Kept
request_replied s thread at text (Asks.Fetch addr) = rights_replied s thread at (Asks.Fetch addr) Kept

-- a call was refused: it is there where only the mappings decide about that
abbrev pub failure_replied : RepliedSoFar → ℕ → CallTimes → Option RefusedCall → RepliedSoFar × Fate
failure_replied s thread at None = (s, Left For.Failed)
failure_replied s thread at (Some r) = (answered s thread at r.request (Replied.Refused r.errno), Kept)

-- after a call with this text, which says this; a program that begins has what is there at the start
abbrev pub said_replied : RepliedSoFar → RepliedSoFar → ℕ → CallTimes → List ℕ → Said → RepliedSoFar × Fate
said_replied start s thread at text (Says.Asks request) = request_replied s thread at text request
said_replied start s thread at text (Says.Keyed request) = rights_replied s thread at request (Changed Key)
said_replied start s thread at text (Says.Breaks to) = break_replied s thread at to
said_replied start s thread at text (Says.Moves from old to new stays) = move_replied s thread at from old to new stays (is_fixed_move text)
said_replied start s thread at text Says.Begins = (start, Left For.Begins)
said_replied start s thread at text (Says.Attaches number addr prot) = (s, Left (For.Lost Lose.Attach))
said_replied start s thread at text (Says.Detaches addr) = (s, Left (For.Lost Lose.Detach))
said_replied start s thread at text (Says.Clears addr len) = (s, Left (For.Lost Lose.Drops))
said_replied start s thread at text (Says.Loses lost) = (s, Left (For.Lost lost))
said_replied start s thread at text Says.Fails = failure_replied s thread at (refused_of text)
said_replied start s thread at text Says.Unread = (s, Left For.Unread)
said_replied start s thread at text (Says.Makes child shares joins) = (s, Left For.Other)
said_replied start s thread at text (Says.Sizes number len) = (s, Left For.Other)
said_replied start s thread at text Says.Ends = (s, Left For.Other)
said_replied start s thread at text Says.Other = (s, Left For.Other)
