-- What is mapped where a trace begins, by a list of mappings.
use Rattle.std.specs.Prelude.{ℕ, ◌+◌, ◌-◌, ◌^◌, Bool, true, false, not, List, [], ◌∷◌, ◌++◌, Option, None, Some, if◌then◌else◌, nat_lt, nat_le, codes}
use Rattle.std.specs.Str.{bytes_eq}
use Rattle.trace_io.specs.Lines.{lines_of}
use Rattle.vm_base.specs.declared.requests.Flags.{Flags}
use Rattle.vm_base.specs.declared.requests.Request.{Request}
use Rattle.vm_base.specs.declared.requests.Request.TheVariants.{Mmap}
use Rattle.import_steps.specs.Taking.{SoFar, file_place, files_with, last_name, no_name, nothing_taken, reaches}
use Rattle.import_steps.specs.Taking.{with_files, with_heap_end, with_name, with_names}
use Rattle.import_maps.specs.declared.names.Name.{Name}
use Rattle.import_log.specs.Entries.{counted, no_entries}
use Rattle.import_lines.specs.Listed.{Entry, entry_said, kind_named}
use Rattle.import_log.specs.declared.entries.Entries.{Entries}
use Rattle.import_log.specs.declared.entries.Entered.{Entered}
use Rattle.import_log.specs.declared.entries.Entered.TheVariants as Is
use Rattle.import_lines.specs.declared.listed.MappingKind.{MappingKind}
use Rattle.import_lines.specs.declared.listed.MappingKind.TheVariants.{Kernel, Anonymous, File}

-- core 0's request, of pages whose file's name stands here
abbrev pub with_request : SoFar → Name → Request → SoFar
with_request s name request = record {
  threads = s.threads;
  files = s.files;
  heap_end = s.heap_end;
  pieces = s.pieces;
  attached = s.attached;
  names = s.names;
  steps = s.steps ++ record { core = 0; name = name; request = request } ∷ [];
}

-- a line's mapping as a fixed one
abbrev pub flags_of : Bool → Bool → Flags
flags_of shared anon = record { private = not shared; shared = shared; fixed = true; anon = anon }

-- where the entry is the heap, it ends there
abbrev pub heap_with : SoFar → Entry → SoFar
heap_with s e = if bytes_eq e.name (codes "[heap]") then with_heap_end s e.end else s

-- a mapping of no file
abbrev pub without_file : SoFar → Entry → SoFar
without_file s e = with_request (heap_with s e) no_name
    (Mmap e.start (e.end - e.start) e.prot (flags_of e.shared true) 0 0)

-- a file's name as strace shows it beside a descriptor
abbrev pub shown_name : List ℕ → List ℕ
shown_name name = codes "<" ++ name ++ codes ">"

-- a mapping of no file, in place of the file of this name
abbrev pub in_place_of_file : SoFar → Entry → List ℕ → SoFar
in_place_of_file s e name =
    let names = with_name s.names name in
    with_request (with_names s names) (last_name names name) (Mmap e.start (e.end - e.start) e.prot (flags_of e.shared true) 0 e.off)

-- a mapping of the file with this number, or of no file where it has none
abbrev pub with_file : SoFar → Entry → Option ℕ → SoFar × Entered
with_file s e (Some file) = (with_request s no_name (Mmap e.start (e.end - e.start) e.prot (flags_of e.shared false) file e.off), Is.Kept)
with_file s e None = (in_place_of_file s e (shown_name e.name), Is.Changed)

-- a file is mapped if its pages lie within what a file may have, and else anonymous pages in its place
abbrev pub file_listed : SoFar → Entry → SoFar × Entered
file_listed s e = if reaches e.off (e.end - e.start)
    then with_file (with_files s (files_with s.files (shown_name e.name) (e.off + (e.end - e.start))))
    e (file_place s.files (shown_name e.name))
    else with_file s e None

-- the pages of a line by what its name says that they are
abbrev pub kind_listed : SoFar → Entry → MappingKind → SoFar × Entered
kind_listed s e Kernel = (s, Is.Kernel)
kind_listed s e Anonymous = (without_file s e, Is.Kept)
kind_listed s e File = file_listed s e

-- within the addresses of a trace
abbrev pub is_inside : Entry → Bool
is_inside e = if nat_lt e.start 4096 then false else nat_le e.end (2 ^ 47)

-- what a line of the list becomes: a mapping where it has pages below the end of addresses
abbrev pub entry_listed : SoFar → Entry → SoFar × Entered
entry_listed s e = if nat_le e.end e.start then (s, Is.Unread)
    else if is_inside e then kind_listed s e (kind_named e.name)
    else (s, Is.Outside)

-- after a line: what is mapped, and what became of the line
abbrev pub line_listed : SoFar → Option Entry → SoFar × Entered
line_listed s None = (s, Is.Unread)
line_listed s (Some e) = entry_listed s e

-- a line that became something, counted
abbrev pub counted_with : Entries → SoFar × Entered → SoFar × Entries
counted_with entries after = (after.0, counted entries after.1)

-- after these lines
abbrev pub listed_with : SoFar × Entries → List (List ℕ) → SoFar × Entries
listed_with s [] = s
listed_with s (line ∷ lines) = listed_with (counted_with s.1 (line_listed s.0 (entry_said line))) lines

-- what a list says, and how many of its lines became what
abbrev pub start_of : List ℕ → SoFar × Entries
start_of list = listed_with (nothing_taken, no_entries) (lines_of list)
