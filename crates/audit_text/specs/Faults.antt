-- What is wrong with a line, whatever stands before it.
use Rattle.std.specs.Prelude.{◌≡◌, ℕ, ◌<◌, ◌≤◌, List, length}
use Rattle.audit_text.specs.Grammar.{Tells}
use Rattle.audit_text.specs.declared.input.AuditFault.{AuditFault}
use Rattle.audit_text.specs.declared.input.AuditFault.TheVariants.{BadLine, TooLong}
use Rattle.audit_text.specs.declared.reading.Said.{Said}

-- the line, which has this number, can't be read
abbrev pub SaysNothing : List ℕ → ℕ → AuditFault → Type 0
SaysNothing line number (BadLine n) = (n ≡ number) × (length line ≤ 512) × ((said : Said) → Tells said line → ⊥)
SaysNothing line number (TooLong n) = (n ≡ number) × (512 < length line)
SaysNothing line number _ = ⊥
