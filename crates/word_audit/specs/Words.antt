-- What the word `audit` does: how it ends, what is read and written by then, and the status.
use Rattle.std.specs.Prelude.{◌≡◌, ◌⊎◌, ℕ, Bool}
use Rattle.std.specs.Io.KnownBytes.{Keeps}
use Rattle.overlapping.specs.Ends.{TellsJudgement}
use Rattle.overlapping.specs.Replies.{AuditEnds}
use Rattle.loosely.specs.Besides.{CallsEnd}
use Rattle.loosely.specs.Kernel.{EndsByKernel}
use Rattle.audit_text.specs.Ends.{TellsAudit}
use Rattle.audit_text.specs.Reviewed.{ReviewEnds}
use Rattle.audit_text.specs.declared.allowing.Terms.{Terms}
use Rattle.word_audit.specs.Status.{audit_status, calls_status, judgement_status, review_status}
use Rattle.trace_io.specs.Io.{ReadFrom, WrittenTo}
use Rattle.word_parts.specs.Ends.{EndsInOneWay}

-- the judgement of replies by these terms
abbrev pub AuditsReplies : Terms → ReadFrom → WrittenTo → ℕ → Type 0
AuditsReplies terms text out n = EndsInOneWay audit_status (λ input unread. AuditEnds terms input) TellsAudit text out n

-- the same, which goes on after a wrong one
abbrev pub ReviewsReplies : Terms → ReadFrom → WrittenTo → ℕ → Type 0
ReviewsReplies terms text out n = EndsInOneWay review_status (λ input unread. ReviewEnds terms input) TellsAudit text out n

-- the judgement of calls that overlap, by one moment for each; and, where that isn't to stand alone, by the rule that kernels keep
abbrev pub JudgesCalls : Type 0 → Bool → Bool → ReadFrom → WrittenTo → ℕ → Type 0
JudgesCalls A is_alone any_place text out n =
    EndsInOneWay calls_status (λ input unread. CallsEnd {A = A} is_alone any_place input) TellsJudgement text out n

-- the same, unless the order that is given can't be read: then nothing is written
abbrev pub JudgesOrGivesUp : Type 0 → Bool → Bool → ReadFrom → WrittenTo → ℕ → Type 0
JudgesOrGivesUp A is_alone any_place text out n = JudgesCalls A is_alone any_place text out n ⊎ ((n ≡ 3) × Keeps out.before out.after)

-- the judgement by the rule that kernels keep alone
abbrev pub JudgesByKernel : Type 0 → Bool → Bool → ReadFrom → WrittenTo → ℕ → Type 0
JudgesByKernel A any_place moving text out n =
    EndsInOneWay judgement_status (λ input unread. EndsByKernel {A = A} any_place moving input) TellsJudgement text out n
