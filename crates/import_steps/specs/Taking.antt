-- What a call becomes: requests of a trace, a change, or a reason for which it is left out.
use Rattle.std.specs.Prelude.{ℕ, ◌+◌, ◌-◌, ◌*◌, ◌^◌, ◌/◌, ◌%◌, Bool, true, false, ◌||◌, ◌&&◌, List, [], ◌∷◌, ◌++◌, Option, None, Some, if◌then◌else◌, ◌==◌}
use Rattle.std.specs.Prelude.{nat_lt, nat_le, drop, filter, length, map, max, min, slice_index_or, slice_set}
use Rattle.std.specs.Str.{bytes_eq}
use Rattle.vm_base.specs.declared.rights.Prot.{Prot}
use Rattle.vm_base.specs.declared.requests.Flags.{Flags}
use Rattle.vm_base.specs.declared.requests.Request.{Request}
use Rattle.vm_base.specs.declared.requests.Request.TheVariants.{Mmap, Munmap, Mprotect, Load, Store, Fetch}
use Rattle.import_forms.specs.declared.said.Lost.TheVariants as Lose
use Rattle.import_forms.specs.declared.said.Said.{Said}
use Rattle.import_forms.specs.declared.said.Said.TheVariants as Says
use Rattle.import_maps.specs.Ranges.{between, bytes_of, parts_of, ranges_of}
use Rattle.import_steps.specs.Shared.{len_of, memory_name}
use Rattle.import_maps.specs.declared.ranges.MappedRange.{MappedRange}
use Rattle.import_steps.specs.declared.shared.SharedSegment.{SharedSegment}
use Rattle.import_maps.specs.declared.names.Name.{Name}
use Rattle.import_maps.specs.declared.steps.TraceRequest.{TraceRequest}
use Rattle.import_steps.specs.declared.taking.FileUse.{FileUse}
use Rattle.import_steps.specs.declared.taking.Taken.{Taken}
use Rattle.import_steps.specs.declared.taking.LineChange.TheVariants.{Heap, Move, File, Key, Shared, Clear}
use Rattle.import_steps.specs.declared.taking.Reason.TheVariants as For
use Rattle.import_steps.specs.declared.taking.Fate.{Fate}
use Rattle.import_steps.specs.declared.taking.Fate.TheVariants.{Kept, Changed, Left}

-- a file's name, and how many of its bytes mappings reach
abbrev pub use_of : FileUse → List ℕ × ℕ
use_of f = (f.name.items, f.len)

-- what was taken so far: threads in the order of their first request, files by their numbers, the heap's end once known,
-- shared memory by its numbers and where it is mapped, the names of files that became anonymous pages, one behind another, and the
-- requests
pub record SoFar : Type 0 where
  pub threads : List ℕ
  pub files : List (List ℕ × ℕ)
  pub heap_end : Option ℕ
  pub pieces : List SharedSegment
  pub attached : List SharedSegment
  pub names : List ℕ
  pub steps : List TraceRequest

-- what the code keeps, as a value
abbrev pub so_far : Taken → SoFar
so_far t = record {
  threads = t.threads.items;
  files = map use_of t.files.items;
  heap_end = t.heap_end;
  pieces = t.pieces.items;
  attached = t.attached.items;
  names = t.names.items;
  steps = t.steps;
}

-- before the first line
abbrev pub nothing_taken : SoFar
nothing_taken = record { threads = []; files = []; heap_end = None; pieces = []; attached = []; names = []; steps = [] }

-- where the thread stands, or would stand behind all
abbrev pub place_of : ℕ → List ℕ → ℕ
place_of thread [] = 0
place_of thread (t ∷ ts) = if t == thread then 0 else place_of thread ts + 1

-- where the file of this name stands, or would stand behind all
abbrev pub place_named : List ℕ → List (List ℕ × ℕ) → ℕ
place_named name [] = 0
place_named name (f ∷ fs) = if bytes_eq f.0 name then 0 else place_named name fs + 1

-- the thread's request, on a core of its own, of pages of a file of this name; the 65th thread shares the first one's
abbrev pub asked_of : SoFar → ℕ → Name → Request → SoFar
asked_of s thread name request = record {
  threads = if place_of thread s.threads == length s.threads then s.threads ++ thread ∷ [] else s.threads;
  files = s.files;
  heap_end = s.heap_end;
  pieces = s.pieces;
  attached = s.attached;
  names = s.names;
  steps = s.steps ++ record { core = place_of thread s.threads % 64; name = name; request = request } ∷ [];
}

-- where no name is
abbrev pub no_name : Name
no_name = record { from = 0; len = 0 }

abbrev pub asked_by : SoFar → ℕ → Request → SoFar
asked_by s thread request = asked_of s thread no_name request

-- the names with this one as the last; several mappings of a file often come one after another
abbrev pub with_name : List ℕ → List ℕ → List ℕ
with_name names name = if bytes_eq (drop (length names - length name) names) name then names else names ++ name

-- where the last name stands
abbrev pub last_name : List ℕ → List ℕ → Name
last_name names name = record { from = length names - length name; len = length name }

abbrev pub with_names : SoFar → List ℕ → SoFar
with_names s names = record {
  threads = s.threads;
  files = s.files;
  heap_end = s.heap_end;
  pieces = s.pieces;
  attached = s.attached;
  names = names;
  steps = s.steps;
}

-- the thread's request of pages whose file has this name
abbrev pub asked_named : SoFar → ℕ → List ℕ → Request → SoFar
asked_named s thread name request =
    let names = with_name s.names name in
    asked_of (with_names s names) thread (last_name names name) request

-- ---- mappings

-- the number of the file of this name: the first 16 have one
abbrev pub file_place : List (List ℕ × ℕ) → List ℕ → Option ℕ
file_place files name = if nat_lt (place_named name files) 16 then Some (place_named name files) else None

-- the file reaches so far at least
abbrev pub widened : List ℕ × ℕ → ℕ → List ℕ × ℕ
widened f reach = (f.0, max f.1 reach)

-- the file of this name reaches so far at least; one more where it is new and not the 17th
abbrev pub files_with : List (List ℕ × ℕ) → List ℕ → ℕ → List (List ℕ × ℕ)
files_with files name reach =
    let place = place_named name files in
    if nat_le 16 place then files
    else if place == length files then files ++ (name, reach) ∷ []
    else slice_set files place (widened (slice_index_or files place (name, 0)) reach)

-- the mapping ends within the bytes that a file of a trace may have
abbrev pub reaches : ℕ → ℕ → Bool
reaches off len = nat_le (off + len) (2 ^ 20)

-- the same flags, of anonymous pages
abbrev pub anonymous : Flags → Flags
anonymous flags = record { private = flags.private; shared = flags.shared; fixed = flags.fixed; anon = true }

-- a mapping of the file with this number, or of anonymous pages where it has none
abbrev pub mapped_from : SoFar → ℕ → List ℕ → ℕ → ℕ → Prot → Flags → ℕ → Option ℕ → SoFar × Fate
mapped_from s thread name addr len prot flags off (Some file) = (asked_by s thread (Mmap addr len prot flags file off), Kept)
mapped_from s thread name addr len prot flags off None =
    (asked_named s thread name (Mmap addr len prot (anonymous flags) 0 off), Changed File)

-- with these files
abbrev pub with_files : SoFar → List (List ℕ × ℕ) → SoFar
with_files s files = record {
  threads = s.threads;
  files = files;
  heap_end = s.heap_end;
  pieces = s.pieces;
  attached = s.attached;
  names = s.names;
  steps = s.steps;
}

-- a mapped file is kept within the bytes that a file may have, and else becomes anonymous pages
abbrev pub after_file : SoFar → ℕ → List ℕ → ℕ → ℕ → Prot → Flags → ℕ → SoFar × Fate
after_file s thread name addr len prot flags off = if reaches off len
    then mapped_from (with_files s (files_with s.files name (off + len)))
    thread name addr len prot flags off (file_place s.files name)
    else mapped_from s thread name addr len prot flags off None

-- a mapping is of anonymous pages, or of the file of this name
abbrev pub after_mapping : SoFar → ℕ → List ℕ → ℕ → ℕ → Prot → Flags → ℕ → SoFar × Fate
after_mapping s thread name addr len prot flags off = if flags.anon
    then (asked_by s thread (Mmap addr len prot flags 0 off), Kept)
    else after_file s thread name addr len prot flags off

-- ---- the heap, and what is moved

-- an address, or the next one at which a page begins
abbrev pub rounded : ℕ → ℕ
rounded n = (n + 4095) / 4096 * 4096

-- new pages, which are anonymous, and may be read and written
abbrev pub in_place : ℕ → ℕ → Request
in_place addr len = Mmap addr len (record { read = true; write = true; exec = false })
    (record { private = true; shared = false; fixed = true; anon = true }) 0 0

-- the heap ends here now
abbrev pub with_heap_end : SoFar → ℕ → SoFar
with_heap_end s end = record {
  threads = s.threads;
  files = s.files;
  heap_end = Some end;
  pieces = s.pieces;
  attached = s.attached;
  names = s.names;
  steps = s.steps;
}

-- the heap ended at one address, in whole pages, and ends at another
abbrev pub heap_moved : SoFar → ℕ → ℕ → ℕ → SoFar × Fate
heap_moved s thread old new = if nat_lt old new then (asked_by s thread (in_place old (new - old)), Changed Heap)
    else if nat_lt new old then (asked_by s thread (Munmap new (old - new)), Changed Heap)
    else (s, Left For.Still)

-- a heap's first end is only noted, and each later one maps or unmaps what lies between
abbrev pub heap_after : SoFar → ℕ → Option ℕ → ℕ → SoFar × Fate
heap_after s thread None new = (with_heap_end s new, Left For.Still)
heap_after s thread (Some old) new = heap_moved (with_heap_end s new) thread old new

-- brk moves the end of the heap to the next page
abbrev pub after_break : SoFar → ℕ → ℕ → SoFar × Fate
after_break s thread to = if nat_lt (2 ^ 47) to then (s, Left For.Unread) else heap_after s thread s.heap_end (rounded to)

-- ---- ranges that are mapped once more

-- what is mapped of the addresses from one on, up to another
abbrev pub parts_at : SoFar → ℕ → ℕ → List MappedRange
parts_at s from end = parts_of from end (ranges_of s.steps)

-- all of these addresses are mapped
abbrev pub is_whole : ℕ → ℕ → List MappedRange → Bool
is_whole from end parts = nat_lt from end && (bytes_of parts == end - from)

-- the name of the file with this number
abbrev pub name_of_file : List (List ℕ × ℕ) → ℕ → List ℕ
name_of_file files file = (slice_index_or files file ([], 0)).0

-- a mapping with the rights, the flags and the file of a range
abbrev pub mapped_as : SoFar → ℕ → MappedRange → SoFar
mapped_as s thread r = if r.flags.anon
    then asked_of s thread r.name (Mmap r.addr r.len r.prot r.flags 0 r.off)
    else (after_file s thread (name_of_file s.files r.file) r.addr r.len r.prot r.flags r.off).0

abbrev pub mapped_all : SoFar → ℕ → List MappedRange → SoFar
mapped_all s thread [] = s
mapped_all s thread (r ∷ rs) = mapped_all (mapped_as s thread r) thread rs

-- the range at its new place, where the first of all its pages was here and is there
abbrev pub at_place : ℕ → ℕ → MappedRange → MappedRange
at_place from to r = record {
  addr = min (to + (r.addr - from)) (2 ^ 64 - 1);
  len = r.len;
  prot = r.prot;
  flags = r.flags;
  file = r.file;
  off = r.off;
  name = r.name;
}

-- these at their new places
abbrev pub placed_all : SoFar → ℕ → ℕ → ℕ → List MappedRange → SoFar
placed_all s thread from to [] = s
placed_all s thread from to (r ∷ rs) = placed_all (mapped_as s thread (at_place from to r)) thread from to rs

-- the pages that come behind those of a range, which ends here, and go on in its file
abbrev pub grown_from : ℕ → ℕ → MappedRange → MappedRange
grown_from end more r = between r end more

-- these, each grown by so many bytes
abbrev pub grown_all : SoFar → ℕ → ℕ → ℕ → ℕ → ℕ → List MappedRange → SoFar
grown_all s thread from to end more [] = s
grown_all s thread from to end more (r ∷ rs) =
    grown_all (mapped_as s thread (at_place from to (grown_from end more r))) thread from to end more rs

-- The pages of one place are at another, up to this length, and more of them come behind, which are as the last was.
abbrev pub put_there : SoFar → ℕ → ℕ → ℕ → ℕ → ℕ → List MappedRange → List MappedRange → SoFar
put_there s thread from to old new parts last =
    let moved = placed_all s thread from to parts in
    if nat_lt old new then grown_all moved thread from to (from + old) (new - old) last else moved

-- a mapping at this address had so many bytes, in whole pages, and has others
abbrev pub resized : SoFar → ℕ → ℕ → ℕ → ℕ → List MappedRange → SoFar × Fate
resized s thread addr old new last = if nat_lt old new then (grown_all s thread addr addr (addr + old) (new - old) last, Changed Move)
    else if nat_lt new old then (asked_by s thread (Munmap (addr + new) (old - new)), Changed Move)
    else (s, Left For.Still)

-- where pages went that are unmapped
abbrev pub gone_to : ℕ → ℕ → Name
gone_to to len = record { from = to; len = len }

-- It stays at its place, or goes to another. What it has there is as it was: rights, flags and file.
abbrev pub moved : SoFar → ℕ → ℕ → ℕ → ℕ → ℕ → List MappedRange → List MappedRange → SoFar × Fate
moved s thread from old to new parts last = if from == to then resized s thread from old new last
    else (put_there (asked_of s thread (gone_to to new) (Munmap from old)) thread from to old new parts last, Changed Move)

-- its old place has new pages
abbrev pub left_behind : SoFar → ℕ → ℕ → ℕ → ℕ → ℕ → List MappedRange → List MappedRange → SoFar × Fate
left_behind s thread from old to new parts last = (put_there (mapped_all s thread parts) thread from to old new parts last, Changed Move)

-- of lengths in whole pages, of a place that is mapped
abbrev pub move_of : SoFar → ℕ → ℕ → ℕ → ℕ → ℕ → Bool → SoFar × Fate
move_of s thread from old to new stays =
    let parts = parts_at s from (from + min old new) in
    let last = parts_at s (from + old - 4096) (from + old) in
    if is_whole from (from + old) (parts_at s from (from + old))
    then (if stays then left_behind s thread from old to new parts last else moved s thread from old to new parts last)
    else (s, Left For.Unmapped)

-- mremap is an unmapping and mappings, or mappings alone, where the old place stays mapped
abbrev pub after_move : SoFar → ℕ → ℕ → ℕ → ℕ → ℕ → Bool → SoFar × Fate
after_move s thread from old to new stays =
    if nat_lt (2 ^ 47) from || nat_lt (2 ^ 47) old || nat_lt (2 ^ 47) to || nat_lt (2 ^ 47) new then (s, Left For.Unread)
    else move_of s thread from (rounded old) to (rounded new) stays

-- the private ones
abbrev pub private_of : List MappedRange → List MappedRange
private_of rs = filter (λ r. r.flags.private) rs

-- MADV_DONTNEED maps private pages once more, as they were; those that are shared keep their bytes
abbrev pub after_clear : SoFar → ℕ → ℕ → ℕ → SoFar × Fate
after_clear s thread addr len = if nat_lt (2 ^ 47) addr || nat_lt (2 ^ 47) len then (s, Left For.Unread)
    else (let parts = parts_at s addr (addr + rounded len) in
    if is_whole addr (addr + rounded len) parts then (mapped_all s thread (private_of parts), Changed Clear)
    else (s, Left (For.Lost Lose.Drops)))

-- ---- shared memory

-- the piece of this number has so many bytes
abbrev pub with_piece : SoFar → ℕ → ℕ → SoFar
with_piece s number len = record {
  threads = s.threads;
  files = s.files;
  heap_end = s.heap_end;
  pieces = s.pieces ++ record { key = number; len = len } ∷ [];
  attached = s.attached;
  names = s.names;
  steps = s.steps;
}

-- what is attached here has so many bytes, 0 where that isn't known
abbrev pub with_attached : SoFar → ℕ → ℕ → SoFar
with_attached s addr len = record {
  threads = s.threads;
  files = s.files;
  heap_end = s.heap_end;
  pieces = s.pieces;
  attached = s.attached ++ record { key = addr; len = len } ∷ [];
  names = s.names;
  steps = s.steps;
}

-- shared memory is mapped where the kernel says
abbrev pub in_shared : Flags
in_shared = record { private = false; shared = true; fixed = true; anon = false }

-- a mapping of a file that is kept is a change of what attached memory
abbrev pub as_shared : Fate → Fate
as_shared Kept = Changed Shared
as_shared (Changed change) = Changed change
as_shared (Left reason) = Left reason

abbrev pub with_fate_of_shared : SoFar × Fate → SoFar × Fate
with_fate_of_shared after = (after.0, as_shared after.1)

-- shmat is a mapping of a file, where the log says how many bytes the memory has
abbrev pub attached_with : SoFar → ℕ → ℕ → ℕ → Prot → Option ℕ → SoFar × Fate
attached_with s thread number addr prot None = (with_attached s addr 0, Left (For.Lost Lose.Attach))
attached_with s thread number addr prot (Some len) =
    with_fate_of_shared (after_file (with_attached s addr len) thread (memory_name number) addr len prot in_shared 0)

-- shmdt unmaps such a mapping
abbrev pub detached_with : SoFar → ℕ → ℕ → Option ℕ → SoFar × Fate
detached_with s thread addr None = (s, Left (For.Lost Lose.Detach))
detached_with s thread addr (Some len) = if len == 0 then (s, Left (For.Lost Lose.Detach))
    else (asked_by s thread (Munmap addr len), Changed Shared)

-- shmget changes nothing, and says how many bytes the memory has
abbrev pub sized_with : SoFar → ℕ → ℕ → SoFar × Fate
sized_with s number len = (with_piece s number len, Left For.Other)

-- ---- all calls

-- rights with a key are the same without it
abbrev pub keyed_with : SoFar → ℕ → Request → SoFar × Fate
keyed_with s thread request = (asked_by s thread request, Changed Key)

-- what a request of the program becomes in the trace, of a file of this name where it maps one
abbrev pub after_request : SoFar → ℕ → List ℕ → Request → SoFar × Fate
after_request s thread name (Mmap addr len prot flags file off) = after_mapping s thread name addr len prot flags off
after_request s thread name (Munmap addr len) = (asked_by s thread (Munmap addr len), Kept)
after_request s thread name (Mprotect addr len prot) = (asked_by s thread (Mprotect addr len prot), Kept)
after_request s thread name (Load addr) = (asked_by s thread (Load addr), Kept)
after_request s thread name (Store addr value) = (asked_by s thread (Store addr value), Kept)
after_request s thread name (Fetch addr) = (asked_by s thread (Fetch addr), Kept)

-- what was taken after a call that names this file, and what became of its line; a program that begins has what is there at the start
abbrev pub after_said : SoFar → SoFar → ℕ → List ℕ → Said → SoFar × Fate
after_said start s thread name (Says.Asks request) = after_request s thread name request
after_said start s thread name (Says.Breaks to) = after_break s thread to
after_said start s thread name (Says.Moves from old to new stays) = after_move s thread from old to new stays
after_said start s thread name (Says.Clears addr len) = after_clear s thread addr len
after_said start s thread name (Says.Makes child shares joins) = (s, Left For.Other)
after_said start s thread name Says.Begins = (start, Left For.Begins)
after_said start s thread name (Says.Keyed request) = keyed_with s thread request
after_said start s thread name (Says.Sizes number len) = sized_with s number len
after_said start s thread name (Says.Attaches number addr prot) = attached_with s thread number addr prot (len_of number s.pieces)
after_said start s thread name (Says.Detaches addr) = detached_with s thread addr (len_of addr s.attached)
after_said start s thread name (Says.Loses lost) = (s, Left (For.Lost lost))
after_said start s thread name Says.Ends = (s, Left For.Other)
after_said start s thread name Says.Fails = (s, Left For.Failed)
after_said start s thread name Says.Unread = (s, Left For.Unread)
after_said start s thread name Says.Other = (s, Left For.Other)
