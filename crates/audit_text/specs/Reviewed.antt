-- An audit that goes on after wrong replies, and tells each one.
use Rattle.std.specs.Prelude.{◌≡◌, ◌⊎◌, ℕ, suc, ◌+◌, ◌<◌, ◌≤◌, ◌==◌, ◌||◌, ⊤, Bool, true, false, List, [], ◌∷◌, ◌++◌, length, Option, None, Some}
use Rattle.std.specs.Prelude.{Result, Ok, Err}
use Rattle.std.specs.Prelude.{if◌then◌else◌}
use Rattle.std.specs.List.{flat_map}
use Rattle.std.specs.Io.KnownBytes.{Keeps, Appends}
use Rattle.trace_io.specs.Lines.{lines_of}
use Rattle.trace_io.specs.Sink.{AppendsFront}
use Rattle.trace_io.specs.declared.fault.IoFault.TheVariants.{ReadFailed, NoMemory, WriteFailed}
use Rattle.vm_base.specs.Answers.{Answers}
use Rattle.vm_base.specs.Pages.{page_count, page_of}
use Rattle.vm_base.specs.Places.{IsHint}
use Rattle.vm_base.specs.Plain.{Plain, is_mapped}
use Rattle.vm_base.specs.declared.replies.Reply.{Reply}
use Rattle.vm_base.specs.declared.replies.Reply.TheVariants.{Mapped}
use Rattle.vm_base.specs.declared.requests.Request.{Request}
use Rattle.vm_base.specs.declared.requests.Request.TheVariants.{Mmap}
use Rattle.audit.specs.Placing.{rule_of}
use Rattle.audit.specs.declared.auditor.Call.{Call}
use Rattle.audit_text.specs.declared.item.AuditItem.{AuditItem}
use Rattle.audit_text.specs.declared.item.AuditItem.TheVariants.{Answer}
use Rattle.audit_text.specs.Ends.{head_text}
use Rattle.audit_text.specs.Grammar.{Tells}
use Rattle.audit_text.specs.Heard.{Declared, Heard, Stage, Front, Leads, is_certain, lacking_by, stage_after, undeclared}
use Rattle.audit_text.specs.Legal.{IsMisplaced, IsPlace, LacksSpace, declared_in, first_map, heard_in, told_at}
use Rattle.audit_text.specs.Steps.{IsRefused, Moves}
use Rattle.audit_text.specs.declared.allowing.Terms.{Terms}
use Rattle.audit_text.specs.declared.input.AuditFault.{AuditFault}
use Rattle.audit_text.specs.declared.input.AuditFault.TheVariants.{BadLine, TooLong, NoVmLine, Io}
use Rattle.audit_text.specs.declared.judging.Verdict.{Verdict}
use Rattle.audit_text.specs.declared.judging.Verdict.TheVariants.{Legal, Illegal, Undecided}
use Rattle.audit_text.specs.declared.reading.Said.{Said}

-- ---- the map after a wrong reply

-- the request for a mapping at just this address
abbrev pub asked_there : Request → ℕ → Request
asked_there (Mmap addr len prot flags file off) at = Mmap at len prot (record flags { fixed = true }) file off
asked_there request at = request

-- how many pages a mapping has that may have any place
abbrev pub count_asked : Request → Option ℕ
count_asked (Mmap addr len prot flags file off) = if flags.fixed || (page_count len == 0) then None else Some (page_count len)
count_asked request = None

-- The reply says that the mapping is at pages that are valid and free: u has it there.
abbrev pub IsThere : Terms → Plain → Call → Plain → Type 0
IsThere terms t call u = (at : ℕ) × (n : ℕ) × (call.reply ≡ Mapped at) × (count_asked call.request ≡ Some n)
    × IsHint (is_mapped t.entry) (page_of at) n
    × Answers (rule_of terms.any_place) t call.core (asked_there call.request at) call.reply u

-- What the replies after a wrong one are judged by: the mapping is where the reply says, if it can be there; else what was due was done; where
-- that can't be by these terms, nothing.
pub data GoesOn (terms : Terms) (t : Plain) (call : Call) (due : Reply) (u : Plain) : Type 0 where
  there : IsThere terms t call u → GoesOn terms t call due u
  as_due : ((v : Plain) → ¬ IsThere terms t call v) → Answers (rule_of terms.any_place) t call.core call.request due u
      → GoesOn terms t call due u
  as_was : ((v : Plain) → ¬ IsThere terms t call v) → ((v : Plain) → ¬ Answers (rule_of terms.any_place) t call.core call.request due v)
      → u ≡ t → GoesOn terms t call due u

-- the same of what a line told; a copy that may not be is left out
abbrev pub GoesOnBy : Terms → Plain → AuditItem → Option Reply → Plain → Type 0
GoesOnBy terms t (Answer call) (Some due) u = GoesOn terms t call due u
GoesOnBy terms t item due u = u ≡ t

-- ---- each line

-- what is told of a wrong reply, or of a copy that may not be
abbrev pub wrong_at : ℕ → AuditItem → Option Reply → Bool → Verdict
wrong_at n item due true = Illegal n item due
wrong_at n item due false = Undecided n item due

-- What the line with this number tells, if it tells something, may be, or is told as wrong; u is the map after it.
abbrev pub TurnsBy : Terms → Plain → ℕ → Option AuditItem → Bool → List Verdict → Plain → Type 0
TurnsBy terms t n told certain new u = ((new ≡ []) × Moves terms t told u)
    ⊎ ((item : AuditItem) × (due : Option Reply) × (told ≡ Some item) × IsRefused terms t item due × GoesOnBy terms t item due u
    × (new ≡ wrong_at n item due certain ∷ []))

abbrev pub Turns : Terms → Stage → Plain → ℕ → Said → List Verdict → Plain → Type 0
Turns terms s t n said new u = TurnsBy terms t n (told_at s said) (is_certain (heard_in s) said) new u

-- The lines after the n-th lead from one stage and map to the others, and these replies are told as wrong.
abbrev pub Reviews : Terms → Stage → Plain → ℕ → List (List ℕ) → List Verdict → Stage → Plain → Type 0
Reviews terms s t n [] found z v = (found ≡ []) × (z ≡ s) × (v ≡ t)
Reviews terms s t n (l ∷ ls) found z v =
    (said : Said) × (m : Stage) × (u : Plain) × (new : List Verdict) × (rest : List Verdict)
    × (length l ≤ 512) × Tells said l × (stage_after s said ≡ Some m) × Turns terms s t (suc n) said new u
    × (found ≡ new ++ rest) × Reviews terms m u (suc n) ls rest z v

-- All lines of the text: a declaration, and then calls, so many, of which so many found no frame or no memory.
pub record IsReviewed (terms : Terms) (lines : List (List ℕ)) (found : List Verdict) (calls lacking : ℕ) : Type 0 where
  pub front : List (List ℕ)
  pub rest : List (List ℕ)
  pub is : lines ≡ front ++ rest
  pub declared : Declared
  pub leads : Leads (Front undeclared) front (Front declared)
  pub space : declared.has_space ≡ true
  pub stage : Stage
  pub plain : Plain
  pub reviews : Reviews terms (Front declared) (first_map declared) (length front) rest found stage plain
  pub calls_are : calls ≡ (heard_in stage).calls
  pub lacking_are : lacking ≡ lacking_by terms (heard_in stage)

-- ---- faults: of lines, whatever replies stand before them

pub record IsBadLine (lines : List (List ℕ)) (number : ℕ) : Type 0 where
  pub stage : Stage
  pub line : List ℕ
  pub more : List (List ℕ)
  pub before : ℕ
  pub number_is : number ≡ suc before
  pub place : IsPlace lines before (line ∷ more) stage
  pub short : length line ≤ 512
  pub misplaced : IsMisplaced stage line

pub record IsLongLine (lines : List (List ℕ)) (number : ℕ) : Type 0 where
  pub stage : Stage
  pub line : List ℕ
  pub more : List (List ℕ)
  pub before : ℕ
  pub number_is : number ≡ suc before
  pub place : IsPlace lines before (line ∷ more) stage
  pub long : 512 < length line

abbrev pub IsTextAtFault : List (List ℕ) → AuditFault → Type 0
IsTextAtFault lines (BadLine number) = IsBadLine lines number
IsTextAtFault lines (TooLong number) = IsLongLine lines number
IsTextAtFault lines NoVmLine = LacksSpace lines
IsTextAtFault lines (Io NoMemory) = ⊤
IsTextAtFault lines (Io _) = ⊥

-- ---- what is written

-- a line for each wrong reply, or that all are legal
abbrev pub review_text : List Verdict → ℕ → ℕ → List ℕ
review_text [] calls lacking = head_text (Legal calls lacking 0)
review_text (v ∷ vs) calls lacking = flat_map head_text (v ∷ vs)

-- the first wrong one
abbrev pub first_found : List Verdict → Option Verdict
first_found [] = None
first_found (v ∷ vs) = Some v

pub record ReviewsAll (terms : Terms) (input : List ℕ) (old new : Option (List ℕ)) (first : Option Verdict) : Type 0 where
  pub found : List Verdict
  pub calls : ℕ
  pub lacking : ℕ
  pub is : IsReviewed terms (lines_of input) found calls lacking
  pub first_is : first ≡ first_found found
  pub written : Appends old new (review_text found calls lacking)

pub record BreaksReview (terms : Terms) (input : List ℕ) (old new : Option (List ℕ)) : Type 0 where
  pub found : List Verdict
  pub calls : ℕ
  pub lacking : ℕ
  pub is : IsReviewed terms (lines_of input) found calls lacking
  pub written : AppendsFront old new (review_text found calls lacking)

abbrev pub FailsReview : Terms → List ℕ → Option (List ℕ) → Option (List ℕ) → AuditFault → Type 0
FailsReview terms input old new (Io WriteFailed) = BreaksReview terms input old new
FailsReview terms input old new (Io ReadFailed) = Keeps old new
FailsReview terms input old new f = IsTextAtFault (lines_of input) f × Keeps old new

abbrev pub ReviewEnds : Terms → List ℕ → Option (List ℕ) → Option (List ℕ) → Result (Option Verdict) AuditFault → Type 0
ReviewEnds terms input old new (Ok first) = ReviewsAll terms input old new first
ReviewEnds terms input old new (Err f) = FailsReview terms input old new f
