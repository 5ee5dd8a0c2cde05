-- The lines of the log and of the list of mappings, each with its newline.
use Rattle.std.specs.Prelude.{ℕ, ◌*◌, List, ◌++◌, codes, decimal}
use Rattle.std.specs.List.{flat_map}
use Rattle.vm_base.specs.declared.page.PageRange.{PageRange}
use Rattle.vm_base.specs.declared.rights.Prot.{Prot}
use Rattle.vm_base.specs.declared.info.Back.{Back}
use Rattle.vm_base.specs.declared.info.Back.TheVariants.{Anon, Shared, Private}
use Rattle.vm_base.specs.declared.log.Entry.{Entry}
use Rattle.vm_base.specs.declared.log.Entry.TheVariants.{Answer, Detach}
use Rattle.vm_base.specs.declared.replies.Reply.{Reply}
use Rattle.trace_text.specs.Printing.{address_of, text_of}
use Rattle.trace_text.specs.Spelling.{rights_text}

-- `log STEP call CALL REPLY`: from the event with this number on, the call with this number has the
-- reply
abbrev pub answer_line : ℕ → ℕ → Reply → List ℕ
answer_line step call reply =
    codes "log " ++ decimal step ++ codes " call " ++ decimal call ++ codes " " ++ text_of reply
    ++ codes "\n"

-- the address of a page's first byte, and a page's offset in its file
abbrev pub start_of : ℕ → List ℕ
start_of page = address_of (page * 4096)

-- `log STEP detach ADDR`: from the event with this number on, the page has bytes of its own
abbrev pub detach_line : ℕ → ℕ → List ℕ
detach_line step page =
    codes "log " ++ decimal step ++ codes " detach " ++ start_of page ++ codes "\n"

-- an entry of a log as a line
abbrev pub entry_text : Entry → List ℕ
entry_text (Answer step call core reply) = answer_line step call reply
entry_text (Detach step call page) = detach_line step page

-- a line for each entry, in order
unfoldable pub log_text : List Entry → List ℕ
log_text log = flat_map entry_text log

-- a file's number, and where in it the first page begins, in bytes
abbrev pub file_text : ℕ → ℕ → List ℕ
file_text file page = codes " " ++ decimal file ++ codes " " ++ start_of page

-- what backs the first page of a range
abbrev pub back_text : Back → List ℕ
back_text Anon = codes "anon"
back_text (Shared file page) = codes "shared" ++ file_text file page
back_text (Private file page) = codes "private" ++ file_text file page

-- `START-END PROT BACK`: END is the first address after the range
abbrev pub map_line : PageRange → Prot → Back → List ℕ
map_line range prot back =
    start_of range.first ++ codes "-" ++ start_of range.end ++ codes " " ++ rights_text prot
    ++ codes " " ++ back_text back ++ codes "\n"
