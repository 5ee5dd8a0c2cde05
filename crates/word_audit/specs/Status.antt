-- The status of a judgement.
use Rattle.std.specs.Prelude.{ℕ, Option, None, Some, Result, Ok, Err}
use Rattle.audit_text.specs.declared.input.AuditFault.{AuditFault}
use Rattle.audit_text.specs.declared.input.AuditFault.TheVariants as For
use Rattle.audit_text.specs.declared.judging.Verdict.{Verdict}
use Rattle.audit_text.specs.declared.judging.Verdict.TheVariants.{Legal, Illegal, Undecided}
use Rattle.loosely.specs.declared.besides.Besides.{Besides}
use Rattle.loosely.specs.declared.besides.Besides.TheVariants as With
use Rattle.loosely.specs.declared.telling.Judged.{Judged}
use Rattle.orders_text.specs.declared.faults.HistoryFault.{HistoryFault}
use Rattle.orders_text.specs.declared.faults.HistoryFault.TheVariants as Why
use Rattle.overlapping.specs.Replies.{verdict_of}
use Rattle.overlapping.specs.declared.judging.Ruled.{Ruled}
use Rattle.overlapping.specs.declared.judging.Ruling.{Ruling}
use Rattle.overlapping.specs.declared.judging.Ruling.TheVariants as By
use Rattle.overlapping.specs.declared.replies.Judgement.{Judgement as ReplyJudgement}

-- of replies that are judged: 0 where they are legal, 1 where one isn't, 4 where that is undecided
abbrev pub audit_fault_status : AuditFault → ℕ
audit_fault_status (For.BadLine number) = 2
audit_fault_status (For.TooLong number) = 2
audit_fault_status For.NoVmLine = 2
audit_fault_status (For.Io f) = 3

-- by the first wrong one
abbrev pub found_status : Option Verdict → ℕ
found_status None = 0
found_status (Some (Legal calls lacking passed)) = 0
found_status (Some (Illegal line call due)) = 1
found_status (Some (Undecided line call due)) = 4

abbrev pub audit_status : Result ReplyJudgement AuditFault → ℕ
audit_status (Ok judgement) = found_status (Some (verdict_of judgement))
audit_status (Err f) = audit_fault_status f

-- of a history of calls that overlap: 0 where they have an order, 1 where they have none, 4 where none was found
abbrev pub history_fault_status : HistoryFault → ℕ
history_fault_status (Why.Io f) = 3
history_fault_status _ = 2

abbrev pub ruling_status : Ruling → ℕ
ruling_status (By.Legal calls) = 0
ruling_status (By.NoOrder line reply) = 1
ruling_status (By.Undecided line) = 4

-- what is said besides of calls that have none makes 5 of it
abbrev pub besides_status : Besides → ℕ → ℕ
besides_status With.Nothing n = n
besides_status With.Kernel n = 5
besides_status With.Moving n = 5

abbrev pub calls_status : {A : Type 0} → Result (Judged A) HistoryFault → ℕ
calls_status (Ok judged) = besides_status judged.besides (ruling_status judged.ruled.ruling)
calls_status (Err f) = history_fault_status f

-- by the kernels' rule alone
abbrev pub judgement_status : {A : Type 0} → Result (Ruled A) HistoryFault → ℕ
judgement_status (Ok ruled) = ruling_status ruled.ruling
judgement_status (Err f) = history_fault_status f

-- of all replies
abbrev pub review_status : Result (Option Verdict) AuditFault → ℕ
review_status (Ok first) = found_status first
review_status (Err f) = audit_fault_status f
