-- What the parts of an audit come to that goes on after wrong replies.
use Rattle.std.specs.Prelude.{◌≡◌, ℕ, suc, ◌+◌, ◌≤◌, ⊤, Bool, true, List, [], ◌∷◌, ◌++◌, length, Option, None, Some, Result, Ok, Err}
use Rattle.trace_io.specs.declared.fault.IoFault.TheVariants.{NoMemory}
use Rattle.vm_base.specs.Plain.{Plain}
use Rattle.audit_text.specs.Grammar.{Tells}
use Rattle.audit_text.specs.Heard.{Declared, Heard, Stage, Front, Leads, behind, item_told, heard_after, is_certain, stage_after, undeclared}
use Rattle.audit_text.specs.Legal.{declared_in, first_map, heard_in, told_at}
use Rattle.audit_text.specs.Reviewed.{Reviews, TurnsBy}
use Rattle.audit_text.specs.declared.allowing.Terms.{Terms}
use Rattle.audit_text.specs.declared.input.AuditFault.{AuditFault}
use Rattle.audit_text.specs.declared.input.AuditFault.TheVariants.{BadLine, Io}
use Rattle.audit_text.specs.declared.judging.Verdict.{Verdict}
use Rattle.audit_text.specs.declared.reading.Said.{Said}

-- At this line the calls of d's space begin or go on, and these replies before it are told as wrong.
pub record IsBefore (terms : Terms) (lines : List (List ℕ)) (d : Declared) (h : Heard) (t : Plain) (found : List Verdict) (said : Said)
    (number : ℕ) (more : List (List ℕ)) : Type 0 where
  pub front : List (List ℕ)
  pub done : List (List ℕ)
  pub line : List ℕ
  pub is : lines ≡ front ++ (done ++ line ∷ more)
  pub number_is : number ≡ suc (length front + length done)
  pub leads : Leads (Front undeclared) front (Front d)
  pub space : d.has_space ≡ true
  pub stage : Stage
  pub reviews : Reviews terms (Front d) (first_map d) (length front) done found stage t
  pub short : length line ≤ 512
  pub tells : Tells said line
  pub after : stage_after stage said ≡ behind d (heard_after h said)
  pub told : told_at stage said ≡ item_told h said
  pub declared : declared_in stage ≡ d
  pub heard : heard_in stage ≡ h

-- what the line with this number comes to
abbrev pub TurnsOutSo : {T : Type 0} → Terms → Heard → Plain → Said → ℕ → List Verdict → Result T AuditFault → Heard → Plain → List Verdict → Type 0
TurnsOutSo terms h t said line old (Ok x) k u new = (heard_after h said ≡ Some k)
    × ((added : List Verdict) × (new ≡ old ++ added) × TurnsBy terms t line (item_told h said) (is_certain h said) added u)
TurnsOutSo terms h t said line old (Err (BadLine n)) k u new = (n ≡ line) × (heard_after h said ≡ None)
TurnsOutSo terms h t said line old (Err (Io NoMemory)) k u new = ⊤
TurnsOutSo terms h t said line old (Err _) k u new = ⊥
