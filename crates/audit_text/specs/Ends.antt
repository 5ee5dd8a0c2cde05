-- What an audit comes to, and what it writes.
use Rattle.std.specs.Prelude.{◌≡◌, ℕ, ⊤, nat_lt, true, false, List, [], ◌++◌, Option, Some, Result, codes, decimal, if◌then◌else◌}
use Rattle.std.specs.List.{flat_map}
use Rattle.trace_io.specs.Io.{ReadFrom, TellsSent, WrittenTo}
use Rattle.trace_io.specs.declared.fault.IoFault.TheVariants.{NoMemory}
use Rattle.trace_text.specs.Lists.{map_line}
use Rattle.trace_text.specs.Printing.{text_of}
use Rattle.slot_lock.specs.declared.map_list.MapLine.{MapLine}
use Rattle.vm_base.specs.declared.replies.Reply.{Reply}
use Rattle.audit_text.specs.declared.item.AuditItem.{AuditItem}
use Rattle.audit_text.specs.declared.item.AuditItem.TheVariants.{Answer}
use Rattle.audit_text.specs.declared.allowing.Terms.{Terms}
use Rattle.audit_text.specs.Legal.{IsBad, IsIllegal, IsLegal, IsOverlong, LacksSpace}
use Rattle.audit_text.specs.declared.input.AuditFault.{AuditFault}
use Rattle.audit_text.specs.declared.input.AuditFault.TheVariants.{BadLine, TooLong, NoVmLine, Io}
use Rattle.audit_text.specs.declared.judging.Verdict.{Verdict}
use Rattle.audit_text.specs.declared.judging.Verdict.TheVariants.{Legal, Illegal, Undecided}

-- ---- the verdict

abbrev pub IsVerdict : Terms → List (List ℕ) → Verdict → List MapLine → Type 0
IsVerdict terms lines (Legal calls lacking passed) around = IsLegal terms lines calls lacking passed × (around ≡ [])
IsVerdict terms lines (Illegal line item due) around = IsIllegal terms lines line item due true around
IsVerdict terms lines (Undecided line item due) around = IsIllegal terms lines line item due false around

-- a text can't be judged, but for want of memory
abbrev pub IsAtFault : Terms → List (List ℕ) → AuditFault → Type 0
IsAtFault terms lines (BadLine number) = IsBad terms lines number
IsAtFault terms lines (TooLong number) = IsOverlong terms lines number
IsAtFault terms lines NoVmLine = LacksSpace lines
IsAtFault terms lines (Io NoMemory) = ⊤
IsAtFault terms lines (Io _) = ⊥

-- ---- what is written

-- how many calls found no frame or no memory, if any did
abbrev pub some_lacking : ℕ → List ℕ
some_lacking n = codes ", " ++ decimal n ++ codes " without memory"

abbrev pub lacking_text : ℕ → List ℕ
lacking_text n = if nat_lt 0 n then some_lacking n else []

-- what was replied at a line, and what would be due; or that a page was copied where none may be
abbrev pub wrong_text : List ℕ → ℕ → AuditItem → Option Reply → List ℕ
wrong_text word line (Answer call) (Some due) = word ++ decimal line ++ codes ": replied " ++ text_of call.reply
    ++ codes ", due " ++ text_of due ++ codes "\n"
wrong_text word line item due = word ++ decimal line ++ codes ": copied, due no copy\n"

abbrev pub head_text : Verdict → List ℕ
head_text (Legal calls lacking passed) = codes "legal " ++ decimal calls ++ lacking_text lacking ++ codes "\n"
head_text (Illegal line item due) = wrong_text (codes "illegal ") line item due
head_text (Undecided line item due) = wrong_text (codes "undecided ") line item due

abbrev pub mapping_text : MapLine → List ℕ
mapping_text line = map_line line.range line.prot line.back

abbrev pub verdict_text : Verdict → List MapLine → List ℕ
verdict_text verdict around = head_text verdict ++ flat_map mapping_text around

-- ---- the end

-- which failures of reading and writing are told; a verdict has gone out
abbrev pub TellsAudit : {T : Type 0} → Result T AuditFault → ReadFrom → WrittenTo → Type 0
TellsAudit r text sink = TellsSent Io r text sink
