-- A litmus test as a program for a kernel that has POSIX threads.
use Rattle.std.specs.Prelude.{ℕ, List, ◌++◌, codes, decimal}
use Rattle.std.specs.List.{flat_map}
use Rattle.litmus_merges.specs.declared.asked.Asked.{Asked}
use Rattle.trace_words.specs.Written.{request_words, spaced}
use Rattle.trace_words.specs.declared.declaration.FileLine.{FileLine}
use Rattle.trace_text.specs.Printing.{address_of}
use Rattle.trace_text.specs.Spelling.{mode_text}
use Rattle.litmus_report.specs.declared.program_text.TheConstants as Text

-- for what a file is open, its length and its first byte
abbrev pub file_row : FileLine → List ℕ
file_row file = codes "    {\"" ++ mode_text file.mode ++ codes "\", " ++ decimal file.len ++ codes ", " ++ decimal file.seed ++ codes "},\n"

-- a core, and the words of its request
abbrev pub call_row : Asked → List ℕ
call_row call = codes "    {" ++ decimal call.core ++ codes ", \"" ++ spaced (request_words call.request) ++ codes "\"},\n"

abbrev pub final_row : ℕ → List ℕ
final_row addr = codes "    " ++ address_of addr ++ codes ",\n"

-- the calls of the lists, and the final addresses
abbrev pub lists_text : List Asked → List ℕ → List ℕ
lists_text calls addrs = Text.LISTS.now ++ flat_map call_row calls ++ Text.FINALS.now ++ flat_map final_row addrs ++ Text.END.now

-- what is the same for each test, and rows for the files, the calls of the opening, those of the lists, and the final addresses
abbrev pub program_text : List FileLine → List Asked → List Asked → List ℕ → List ℕ
program_text files opening calls addrs = Text.FRONT.now ++ flat_map file_row files ++ Text.OPENING.now ++ flat_map call_row opening
    ++ lists_text calls addrs
