-- What the parts of an audit come to.
use Rattle.std.specs.Prelude.{◌≡◌, ℕ, suc, ◌+◌, ◌≤◌, Bool, true, false, List, [], ◌∷◌, ◌++◌, length, map, Option, None, Some, Result, Ok, Err}
use Rattle.std.specs.Prelude.{if◌then◌else◌}
use Rattle.slot_lock.specs.declared.slot_map.SlotMap.{Ghosts as MapGhosts}
use Rattle.slot_lock.specs.declared.slot_map.SlotRead.{Ghosts as ReadGhosts}
use Rattle.frames.specs.declared.file_spec.FileSpec.{FileSpec}
use Rattle.vm_base.specs.declared.replies.Reply.{Reply}
use Rattle.vm_base.specs.Plain.{File, Plain, file_with}
use Rattle.audit_text.specs.Allowed.{Allows, IsAllowed, IsDue, MayBe}
use Rattle.audit_text.specs.Grammar.{Tells}
use Rattle.audit_text.specs.Heard.{Declared, Heard, Stage, Front, behind, item_told, heard_after, is_certain, needs_space, nothing, one_passed}
use Rattle.audit_text.specs.Heard.{stage_after, with_answer, with_item}
use Rattle.audit_text.specs.Legal.{Follows, HasSpaceFor, IsLegal, IsPlace, IsWrong, declared_in, heard_in, page_told, told_at}
use Rattle.audit_text.specs.Around.{IsAround}
use Rattle.slot_lock.specs.declared.map_list.MapLine.{MapLine}
use Rattle.vm_base.specs.declared.info.Meta.{Meta}
use Rattle.audit_text.specs.declared.allowing.Terms.{Terms}
use Rattle.audit_text.specs.declared.declaring.AuditHead.{AuditHead}
use Rattle.audit_text.specs.declared.declaring.Declares.{Declares}
use Rattle.audit_text.specs.declared.declaring.Declares.TheVariants as Is
use Rattle.audit.specs.declared.auditor.Call.{Call}
use Rattle.audit_text.specs.declared.item.AuditItem.{AuditItem}
use Rattle.audit_text.specs.declared.item.AuditItem.TheVariants.{Answer}
use Rattle.audit_text.specs.declared.hearing.Hearing.{Hearing}
use Rattle.audit_text.specs.declared.hearing.Turn.{Turn}
use Rattle.audit_text.specs.declared.hearing.Turn.TheVariants.{Legal, Bad, Illegal}
use Rattle.audit_text.specs.declared.input.AuditFault.{AuditFault}
use Rattle.audit_text.specs.declared.input.AuditFault.TheVariants.{BadLine, Io}
use Rattle.trace_io.specs.declared.fault.IoFault.TheVariants.{NoMemory}
use Rattle.audit_text.specs.declared.judging.Verdict.{Verdict}
use Rattle.audit_text.specs.declared.judging.Verdict.TheVariants as Of
use Rattle.audit_text.specs.declared.reading.Said.{Said}

-- ---- a declaration

abbrev pub file_of : {A : Type 0} → FileSpec A → File
file_of spec = file_with spec.mode spec.bytes.items

abbrev pub declared_of : {A : Type 0} → AuditHead A → Declared
declared_of it = record { has_space = it.has_space; files = map file_of it.files.items }

-- the declaration has ended: what follows is a call's line, or may not stand here
abbrev pub HasEnded : Declared → Said → Type 0
HasEnded d said = stage_after (Front d) said ≡ (if d.has_space then behind d (heard_after nothing said) else None)

abbrev pub Adds : Declared → Said → Declares → Declared → Type 0
Adds d said Is.Part e = stage_after (Front d) said ≡ Some (Front e)
Adds d said Is.Bad e = (stage_after (Front d) said ≡ None) × HasSpaceFor (Front d) said
Adds d said Is.Ended e = (e ≡ d) × HasEnded d said × (needs_space said ≡ true)

-- ---- a line that is heard

abbrev pub heard_of : {M A : Type 0} {map : MapGhosts M} {read : ReadGhosts M} → Hearing M A map read → Heard
heard_of it = record {
  waiting = it.waiting.items;
  pending = it.pending;
  items = it.items.items;
  calls = it.judged;
  lacking = it.lacking;
  unplaced = it.unplaced;
  passed = it.passed;
  is_sure = it.is_sure;
}

-- by what replies are judged
abbrev pub terms_of : {M A : Type 0} {map : MapGhosts M} {read : ReadGhosts M} → Hearing M A map read → Terms
terms_of it = record { any_place = it.auditor.any_place; is_strict = it.is_strict }

-- how much was counted of the lines
abbrev pub count_of : {M A : Type 0} {map : MapGhosts M} {read : ReadGhosts M} → Hearing M A map read → ℕ
count_of it = it.judged + it.passed + it.pending

-- each core has a place, and those that lacked a frame, memory or a place are some of the calls
pub record IsCounted {M A : Type 0} {map : MapGhosts M} {read : ReadGhosts M} (it : Hearing M A map read) : Type 0 where
  pub places : length it.waiting.items ≡ 64
  pub lacking : it.lacking + it.unplaced ≤ it.judged

-- this reply may not be there, or this copy
abbrev pub IsRefused : Terms → Plain → AuditItem → Option Reply → Type 0
IsRefused terms t item due = ((v : Plain) → ¬ MayBe terms t item v) × IsDue terms t item due

-- what a line tells, if it tells something, may be, and leaves u
abbrev pub Moves : Terms → Plain → Option AuditItem → Plain → Type 0
Moves terms t None u = u ≡ t
Moves terms t (Some item) u = MayBe terms t item u

abbrev pub Hears : Terms → Heard → Plain → Said → Turn → Heard → Plain → Type 0
Hears terms h t said Legal k u = (heard_after h said ≡ Some k) × Moves terms t (item_told h said) u
Hears terms h t said Bad k u = heard_after h said ≡ None
Hears terms h t said (Illegal item due certain) k u = (item_told h said ≡ Some item) × (u ≡ t) × (certain ≡ is_certain h said)
    × IsRefused terms t item due × (heard_after h said ≡ Some (with_item k certain item))

-- the same of one call, whoever tells it
abbrev pub JudgesCall : Terms → Heard → Plain → Bool → Call → Turn → Heard → Plain → Type 0
JudgesCall terms h t certain call Legal k u =
    (k ≡ with_answer h certain call) × Allows terms t call.core call.request call.reply u
JudgesCall terms h t certain call Bad k u = ⊥
JudgesCall terms h t certain call (Illegal item due sure) k u =
    (item ≡ Answer call) × (u ≡ t) × (sure ≡ certain) × IsRefused terms t item due × (k ≡ h)

-- Memory may be wanted for what the line says: it tells a call whose reply may be there, or a copy that may.
abbrev pub MayWant : Terms → Heard → Plain → Said → Type 0
MayWant terms h t said =
    (item : AuditItem) × (item_told h said ≡ Some item) × IsAllowed terms t item

-- a line is passed over, if it may be
abbrev pub Passes : Bool → Heard → Turn → Heard → Type 0
Passes may h Legal k = (may ≡ true) × (k ≡ one_passed h)
Passes may h Bad k = (may ≡ false) × (k ≡ h)
Passes may h (Illegal item due certain) k = ⊥

-- ---- a place in a text

-- the line with this number says this, at this stage, and these follow it
pub record IsAtLine (lines : List (List ℕ)) (number : ℕ) (said : Said) (more : List (List ℕ)) (s : Stage) : Type 0 where
  pub line : List ℕ
  pub before : ℕ
  pub number_is : number ≡ suc before
  pub place : IsPlace lines before (line ∷ more) s
  pub short : length line ≤ 512
  pub tells : Tells said line

-- the declaration is d, and the text ends, or this line is no part of it
abbrev pub EndsFront : List (List ℕ) → Declared → Option Said → ℕ → List (List ℕ) → Type 0
EndsFront lines d None number more = IsPlace lines number [] (Front d)
EndsFront lines d (Some said) number more = IsAtLine lines number said more (Front d) × HasEnded d said × (needs_space said ≡ true)

-- at this line the calls of d's space begin or go on, and the replies before it are legal
pub record IsCall (terms : Terms) (lines : List (List ℕ)) (d : Declared) (h : Heard) (t : Plain) (said : Said) (number : ℕ)
    (more : List (List ℕ)) : Type 0 where
  pub stage : Stage
  pub at : IsAtLine lines number said more stage
  pub space : d.has_space ≡ true
  pub after : stage_after stage said ≡ behind d (heard_after h said)
  pub told : told_at stage said ≡ item_told h said
  pub declared : declared_in stage ≡ d
  pub heard : heard_in stage ≡ h
  pub follows : Follows terms stage t

-- what the line with this number comes to
abbrev pub TurnsOut : Terms → Heard → Plain → Said → ℕ → Result (Option Verdict) AuditFault → Heard → Plain → Type 0
TurnsOut terms h t said line (Ok None) k u = Hears terms h t said Legal k u
TurnsOut terms h t said line (Ok (Some (Of.Legal calls lacking passed))) k u = ⊥
TurnsOut terms h t said line (Ok (Some (Of.Illegal n item due))) k u = (n ≡ line) × Hears terms h t said (Illegal item due true) k u
TurnsOut terms h t said line (Ok (Some (Of.Undecided n item due))) k u = (n ≡ line) × Hears terms h t said (Illegal item due false) k u
TurnsOut terms h t said line (Err (BadLine n)) k u = (n ≡ line) × (heard_after h said ≡ None)
TurnsOut terms h t said line (Err (Io NoMemory)) k u = MayWant terms h t said
TurnsOut terms h t said line (Err _) k u = ⊥

-- memory may be wanted for a line behind legal ones
pub record IsWanting (terms : Terms) (lines : List (List ℕ)) : Type 0 where
  pub stage : Stage
  pub number : ℕ
  pub said : Said
  pub more : List (List ℕ)
  pub plain : Plain
  pub at : IsAtLine lines number said more stage
  pub follows : Follows terms stage plain
  pub may : MayWant terms (heard_in stage) plain said

-- the verdict, without the mappings around
abbrev pub IsFound : Terms → List (List ℕ) → Verdict → Plain → Type 0
IsFound terms lines (Of.Legal calls lacking passed) u = IsLegal terms lines calls lacking passed
IsFound terms lines (Of.Illegal line item due) u = IsWrong terms lines line item due true u
IsFound terms lines (Of.Undecided line item due) u = IsWrong terms lines line item due false u

-- the mappings around the verdict's page, if it has one
abbrev pub ShowsAround : (ℕ → Option Meta) → Verdict → List MapLine → Type 0
ShowsAround meta (Of.Legal calls lacking passed) around = around ≡ []
ShowsAround meta (Of.Illegal line item due) around = IsAround meta (page_told item) around
ShowsAround meta (Of.Undecided line item due) around = IsAround meta (page_told item) around
