-- What a declaration, a request and an event are written as: words, each behind a space.
use Rattle.std.specs.Prelude.{ℕ, suc, ◌||◌, List, [], ◌∷◌, ◌++◌, codes, decimal, if◌then◌else◌}
use Rattle.vm_base.specs.declared.requests.Flags.{Flags}
use Rattle.vm_base.specs.declared.requests.Request.{Request}
use Rattle.vm_base.specs.declared.requests.Request.TheVariants.{Mmap, Munmap, Mprotect, Load, Store, Fetch}
use Rattle.machine_model.specs.declared.event.Event.{Event}
use Rattle.machine_model.specs.declared.event.Event.TheVariants as Ev
use Rattle.trace_text.specs.Words.{Word}
use Rattle.trace_text.specs.Printing.{address_of}
use Rattle.trace_text.specs.Lists.{start_of}
use Rattle.trace_text.specs.Spelling.{letter, mode_text, rights_text}
use Rattle.trace_words.specs.declared.declaration.FileLine.{FileLine}
use Rattle.trace_words.specs.Declarations.{DeclarationView}

-- words, each behind a space
abbrev pub spaced : List Word → List ℕ
spaced [] = []
spaced (w ∷ ws) = codes " " ++ w ++ spaced ws

-- the letters of the flags that are set, in this order, or a dash for none
abbrev pub flags_text : Flags → Word
flags_text flags = if flags.private || flags.shared || flags.fixed || flags.anon
    then letter flags.private (codes "p") ++ letter flags.shared (codes "s") ++ letter flags.fixed (codes "f")
    ++ letter flags.anon (codes "a")
    else codes "-"

-- addresses, lengths and offsets in hexadecimal, a file's number and a byte in decimal
abbrev pub request_words : Request → List Word
request_words (Mmap addr len prot flags file off) =
    codes "mmap" ∷ address_of addr ∷ address_of len ∷ rights_text prot ∷ flags_text flags ∷ decimal file ∷ address_of off ∷ []
request_words (Munmap addr len) = codes "munmap" ∷ address_of addr ∷ address_of len ∷ []
request_words (Mprotect addr len prot) = codes "mprotect" ∷ address_of addr ∷ address_of len ∷ rights_text prot ∷ []
request_words (Load addr) = codes "load" ∷ address_of addr ∷ []
request_words (Store addr byte) = codes "store" ∷ address_of addr ∷ decimal byte ∷ []
request_words (Fetch addr) = codes "fetch" ∷ address_of addr ∷ []

-- ---- events

abbrev pub core_word : ℕ → Word
core_word core = codes "c" ++ decimal core

-- as a line of a trace has it, a page by its address
abbrev pub event_words : Event → List Word
event_words (Ev.Call core request) = core_word core ∷ codes "call" ∷ request_words request
event_words (Ev.Go core) = core_word core ∷ codes "go" ∷ []
event_words (Ev.Frame core frame) = core_word core ∷ codes "frame" ∷ decimal frame ∷ []
event_words (Ev.Guess core page) = core_word core ∷ codes "guess" ∷ start_of page ∷ []
event_words (Ev.Whole core) = core_word core ∷ codes "whole" ∷ []
event_words (Ev.Take core) = core_word core ∷ codes "take" ∷ []
event_words (Ev.Walk core page) = core_word core ∷ codes "walk" ∷ start_of page ∷ []
event_words (Ev.Evict core page) = core_word core ∷ codes "evict" ∷ start_of page ∷ []
event_words (Ev.Flush core) = core_word core ∷ codes "flush" ∷ []
event_words (Ev.Review core) = core_word core ∷ codes "review" ∷ []
event_words (Ev.Fold page) = codes "fold" ∷ start_of page ∷ []
event_words (Ev.GiveUp core) = core_word core ∷ codes "giveup" ∷ []

-- ---- what is declared

abbrev pub space_text : DeclarationView → List ℕ
space_text asked = codes "vm" ++ spaced (decimal asked.cores ∷ decimal asked.frames ∷ decimal asked.calls ∷ []) ++ codes "\n"

abbrev pub file_text : ℕ → FileLine → List ℕ
file_text n file = codes "file" ++ spaced (decimal n ∷ mode_text file.mode ∷ decimal file.len ∷ decimal file.seed ∷ []) ++ codes "\n"

-- of files with these numbers and those that follow
abbrev pub files_text : ℕ → List FileLine → List ℕ
files_text n [] = []
files_text n (file ∷ files) = file_text n file ++ files_text (suc n) files

-- the vm line and the file lines
abbrev pub declared_text : DeclarationView → List ℕ
declared_text asked = space_text asked ++ files_text 0 asked.files
