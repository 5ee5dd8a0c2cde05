-- What a legal text is, and what stands in the way of it first.
use Rattle.std.specs.Prelude.{◌≡◌, ℕ, suc, ◌<◌, ◌≤◌, ◌⊎◌, ⊤, Bool, true, false, List, [], ◌∷◌, ◌++◌, length, slice_get, Option, None, Some}
use Rattle.std.specs.Prelude.{if◌then◌else◌}
use Rattle.vm_base.specs.declared.requests.Request.{Request}
use Rattle.vm_base.specs.declared.requests.Request.TheVariants.{Mmap, Munmap, Mprotect, Load, Store, Fetch}
use Rattle.vm_base.specs.declared.replies.Reply.{Reply}
use Rattle.vm_base.specs.Pages.{page_of}
use Rattle.vm_base.specs.Plain.{Plain, nothing_mapped}
use Rattle.slot_lock.specs.MapList.{plain_metas}
use Rattle.slot_lock.specs.declared.map_list.MapLine.{MapLine}
use Rattle.audit_text.specs.declared.item.AuditItem.{AuditItem}
use Rattle.audit_text.specs.declared.item.AuditItem.TheVariants.{Answer, Copy}
use Rattle.audit_text.specs.Allowed.{AreAllowed, IsDue, MayBe}
use Rattle.audit_text.specs.Around.{IsAround}
use Rattle.audit_text.specs.Grammar.{Tells}
use Rattle.audit_text.specs.Heard.{Declared, Heard, Stage, Front, Behind, Leads, item_told, is_certain, needs_space, nothing, stage_after, undeclared}
use Rattle.audit_text.specs.Heard.{lacking_by}
use Rattle.audit_text.specs.declared.allowing.Terms.{Terms}
use Rattle.audit_text.specs.declared.reading.Said.{Said}

abbrev pub declared_in : Stage → Declared
declared_in (Front d) = d
declared_in (Behind d h) = d

abbrev pub heard_in : Stage → Heard
heard_in (Front d) = nothing
heard_in (Behind d h) = h

-- the plain page map at first: nothing is mapped, and the files are as declared
abbrev pub first_map : Declared → Plain
first_map d = nothing_mapped (λ n. slice_get d.files n)

-- the replies and copies told so far, one after another, may be, and lead to u
abbrev pub Follows : Terms → Stage → Plain → Type 0
Follows terms s u = AreAllowed terms (first_map (declared_in s)) (heard_in s).items u

-- A text is legal, with so many calls, of which so many found no frame or no memory: its lines may stand where they are, a space is
-- declared, and the replies and copies that they tell, one after another, may be.
pub record IsLegal (terms : Terms) (lines : List (List ℕ)) (calls lacking passed : ℕ) : Type 0 where
  pub stage : Stage
  pub plain : Plain
  pub leads : Leads (Front undeclared) lines stage
  pub space : (declared_in stage).has_space ≡ true
  pub replies : Follows terms stage plain
  pub calls_are : calls ≡ (heard_in stage).calls
  pub lacking_are : lacking ≡ lacking_by terms (heard_in stage)
  pub passed_are : passed ≡ (heard_in stage).passed

-- ---- the first line that isn't

-- so many lines lead to a stage, and these are left
pub record IsPlace (lines : List (List ℕ)) (number : ℕ) (more : List (List ℕ)) (s : Stage) : Type 0 where
  pub done : List (List ℕ)
  pub is : lines ≡ done ++ more
  pub count : length done ≡ number
  pub leads : Leads (Front undeclared) done s

-- what a line tells at a stage that is judged
abbrev pub told_at : Stage → Said → Option AuditItem
told_at (Front d) said = if d.has_space then item_told nothing said else None
told_at (Behind d h) said = item_told h said

abbrev pub page_asked : Request → ℕ
page_asked (Mmap addr len prot flags file off) = page_of addr
page_asked (Munmap addr len) = page_of addr
page_asked (Mprotect addr len prot) = page_of addr
page_asked (Load addr) = page_of addr
page_asked (Store addr b) = page_of addr
page_asked (Fetch addr) = page_of addr

abbrev pub page_told : AuditItem → ℕ
page_told (Answer call) = page_asked call.request
page_told (Copy page) = page

-- The lines before this one are legal, and lead to this map. It tells a reply that may not be there, and a plain page map
-- gives another; or a copy that may not be. Whether that is certain is told, too.
pub record IsWrong (terms : Terms) (lines : List (List ℕ)) (number : ℕ) (item : AuditItem) (due : Option Reply) (certain : Bool) (plain : Plain)
    : Type 0 where
  pub stage : Stage
  pub line : List ℕ
  pub more : List (List ℕ)
  pub said : Said
  pub before : ℕ
  pub number_is : number ≡ suc before
  pub place : IsPlace lines before (line ∷ more) stage
  pub replies : Follows terms stage plain
  pub short : length line ≤ 512
  pub tells : Tells said line
  pub told : told_at stage said ≡ Some item
  pub none : (v : Plain) → ¬ MayBe terms plain item v
  pub other : IsDue terms plain item due
  pub certain_is : certain ≡ is_certain (heard_in stage) said

-- and these mappings are around its page
pub record IsIllegal (terms : Terms) (lines : List (List ℕ)) (number : ℕ) (item : AuditItem) (due : Option Reply) (certain : Bool)
    (around : List MapLine) : Type 0 where
  pub plain : Plain
  pub wrong : IsWrong terms lines number item due certain plain
  pub shown : IsAround (plain_metas plain) (page_told item) around

-- a space is declared, if what the line says needs one
abbrev pub HasSpaceFor : Stage → Said → Type 0
HasSpaceFor s said = needs_space said ≡ true → (declared_in s).has_space ≡ true

-- The line says nothing; or what it says may not stand here, and that isn't for want of a space.
abbrev pub IsMisplaced : Stage → List ℕ → Type 0
IsMisplaced s line = ((said : Said) → Tells said line → ⊥)
    ⊎ ((said : Said) × Tells said line × (stage_after s said ≡ None) × HasSpaceFor s said)

-- The lines before this one are legal, and it is misplaced.
pub record IsBad (terms : Terms) (lines : List (List ℕ)) (number : ℕ) : Type 0 where
  pub stage : Stage
  pub plain : Plain
  pub line : List ℕ
  pub more : List (List ℕ)
  pub before : ℕ
  pub number_is : number ≡ suc before
  pub place : IsPlace lines before (line ∷ more) stage
  pub replies : Follows terms stage plain
  pub short : length line ≤ 512
  pub misplaced : IsMisplaced stage line

-- they are, and it is too long
pub record IsOverlong (terms : Terms) (lines : List (List ℕ)) (number : ℕ) : Type 0 where
  pub stage : Stage
  pub plain : Plain
  pub line : List ℕ
  pub more : List (List ℕ)
  pub before : ℕ
  pub number_is : number ≡ suc before
  pub place : IsPlace lines before (line ∷ more) stage
  pub replies : Follows terms stage plain
  pub long : 512 < length line

-- the text ends, or its next line would have to stand behind that of a space
abbrev pub IsStuck : List (List ℕ) → Type 0
IsStuck [] = ⊤
IsStuck (line ∷ more) = (said : Said) × (length line ≤ 512) × Tells said line × (needs_space said ≡ true)

-- no space is declared so far, and one would have to be
pub record LacksSpace (lines : List (List ℕ)) : Type 0 where
  pub stage : Stage
  pub number : ℕ
  pub more : List (List ℕ)
  pub place : IsPlace lines number more stage
  pub no_space : (declared_in stage).has_space ≡ false
  pub stuck : IsStuck more
