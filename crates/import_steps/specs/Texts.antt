-- The text of the trace that was made.
use Rattle.std.specs.Prelude.{ℕ, ◌+◌, List, [], ◌∷◌, ◌++◌, if◌then◌else◌, ◌==◌, codes, decimal, drop, length, max, min, take}
use Rattle.std.specs.List.{flat_map}
use Rattle.vm_base.specs.declared.requests.Flags.{Flags}
use Rattle.vm_base.specs.declared.requests.Request.{Request}
use Rattle.vm_base.specs.declared.requests.Request.TheVariants.{Mmap, Munmap, Mprotect, Load, Store, Fetch}
use Rattle.trace_text.specs.Printing.{address_of}
use Rattle.trace_text.specs.Spelling.{letter, rights_text}
use Rattle.import_steps.specs.Names.{bare, name_shown}
use Rattle.import_steps.specs.Taking.{SoFar}
use Rattle.import_maps.specs.declared.names.Name.{Name}
use Rattle.import_maps.specs.declared.steps.TraceRequest.{TraceRequest}

-- an address and a length in bytes, each behind a space
abbrev pub range_text : ℕ → ℕ → List ℕ
range_text addr len = codes " " ++ address_of addr ++ codes " " ++ decimal len

-- the kind of a mapping in letters
abbrev pub kind_text : Flags → List ℕ
kind_text flags = codes " " ++ letter flags.private (codes "p") ++ letter flags.shared (codes "s")
    ++ letter flags.fixed (codes "f") ++ letter flags.anon (codes "a")

-- a file's number and an offset, which an anonymous mapping leaves out
abbrev pub backing_text : Flags → ℕ → ℕ → List ℕ
backing_text flags file off = if flags.anon then [] else codes " " ++ decimal file ++ codes " " ++ address_of off

-- a request as a trace has it: lengths in decimal digits, as the log has them
abbrev pub asked_text : Request → List ℕ
asked_text (Mmap addr len prot flags file off) =
    codes "mmap" ++ range_text addr len ++ codes " " ++ rights_text prot ++ kind_text flags ++ backing_text flags file off
asked_text (Munmap addr len) = codes "munmap" ++ range_text addr len
asked_text (Mprotect addr len prot) = codes "mprotect" ++ range_text addr len ++ codes " " ++ rights_text prot
asked_text (Load addr) = codes "load" ++ codes " " ++ address_of addr
asked_text (Store addr value) = codes "store" ++ codes " " ++ address_of addr ++ codes " " ++ decimal value
asked_text (Fetch addr) = codes "fetch" ++ codes " " ++ address_of addr

-- `cC! REQ`
abbrev pub step_line : ℕ → Request → List ℕ
step_line core request = codes "c" ++ decimal core ++ codes "! " ++ asked_text request ++ codes "\n"

-- a file that may be read and written, as long as its mappings reach; its first byte is its number
abbrev pub use_line : ℕ → ℕ → List ℕ
use_line number len = codes "file" ++ codes " " ++ decimal number ++ codes " rw" ++ codes " " ++ decimal len
    ++ codes " " ++ decimal number ++ codes "\n"

-- a comment that says what the file is named, and the file
abbrev pub use_text : ℕ → List ℕ × ℕ → List ℕ
use_text number f = codes "# file" ++ codes " " ++ decimal number ++ codes " " ++ name_shown 200 (bare f.0) ++ codes "\n" ++ use_line number f.1

-- these lines for each file, numbered from this number on
abbrev pub use_lines : ℕ → List (List ℕ × ℕ) → List ℕ
use_lines number [] = []
use_lines number (f ∷ fs) = use_text number f ++ use_lines (number + 1) fs

-- a comment that says which range of addresses should have a file's pages, where they begin in the file, and what that is named
abbrev pub range_note : List ℕ → Request → List ℕ
range_note name (Mmap addr len prot flags file off) = codes "# anon" ++ range_text addr len ++ codes " " ++ address_of off ++ codes " "
    ++ name_shown 180 (bare name) ++ codes "\n"
range_note name (Munmap addr len) = []
range_note name (Mprotect addr len prot) = []
range_note name (Load addr) = []
range_note name (Store addr value) = []
range_note name (Fetch addr) = []

-- a comment that says where pages went that are unmapped
abbrev pub gone_note : ℕ → ℕ → ℕ → ℕ → List ℕ
gone_note addr len to new = codes "# moved" ++ range_text addr len ++ range_text to new ++ codes "\n"

abbrev pub note_of : List ℕ → Name → Request → List ℕ
note_of names name (Munmap addr len) = gone_note addr len name.from name.len
note_of names name request = range_note (take name.len (drop name.from names)) request

-- before a request of pages that a file of some name should back, or of some that are at another place now
abbrev pub note_before : List ℕ → Name → Request → List ℕ
note_before names name request = if name.len == 0 then [] else note_of names name request

-- a request with its comment, if it has one
abbrev pub step_text : List ℕ → TraceRequest → List ℕ
step_text names step = note_before names step.name step.request ++ step_line step.core step.request

-- a core for each thread, up to 64; the frames; a call for each request, and 4096 at least
abbrev pub first_line : ℕ → ℕ → ℕ → List ℕ
first_line frames threads steps = codes "vm" ++ codes " " ++ decimal (min (max threads 1) 64) ++ codes " " ++ decimal frames
    ++ codes " " ++ decimal (max steps 4096) ++ codes "\n"

-- the whole trace, of a space of so many frames
abbrev pub imported_text : ℕ → SoFar → List ℕ
imported_text frames s = first_line frames (length s.threads) (length s.steps) ++ use_lines 0 s.files ++ flat_map (step_text s.names) s.steps
