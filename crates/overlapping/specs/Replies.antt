-- What is told of replies, and how an audit ends.
use Rattle.std.specs.Prelude.{◌≡◌, ℕ, ◌+◌, Bool, true, false, List, [], ◌∷◌, length, Option, Result, Ok, Err, if◌then◌else◌}
use Rattle.std.specs.Io.KnownBytes.{Keeps, Appends}
use Rattle.trace_io.specs.Lines.{lines_of}
use Rattle.trace_io.specs.Sink.{AppendsFront}
use Rattle.trace_io.specs.declared.fault.IoFault.TheVariants.{ReadFailed, WriteFailed}
use Rattle.slot_lock.specs.declared.map_list.MapLine.{MapLine}
use Rattle.vm_base.specs.declared.replies.Reply.{Reply}
use Rattle.audit.specs.Placing.{rule_of}
use Rattle.audit_text.specs.Allowed.{is_lacking}
use Rattle.audit_text.specs.Ends.{IsAtFault, IsVerdict, verdict_text}
use Rattle.audit_text.specs.Legal.{IsIllegal, first_map}
use Rattle.audit_text.specs.declared.allowing.Terms.{Terms}
use Rattle.audit_text.specs.declared.input.AuditFault.{AuditFault}
use Rattle.audit_text.specs.declared.input.AuditFault.TheVariants.{Io}
use Rattle.audit_text.specs.declared.item.AuditItem.{AuditItem}
use Rattle.audit_text.specs.declared.judging.Verdict.{Verdict}
use Rattle.audit_text.specs.declared.judging.Verdict.TheVariants.{Legal, Illegal, Undecided}
use Rattle.orders.specs.declared.history.Timed.{Timed}
use Rattle.orders.specs.Orders.{HasOrder}
use Rattle.orders_text.specs.History.{IsHistory, Read, completed}
use Rattle.overlapping.specs.declared.replies.Counts.{Counts}
use Rattle.overlapping.specs.declared.replies.Judgement.{Judgement}
use Rattle.overlapping.specs.declared.replies.Judgement.TheVariants.{InOrder, Reordered}

-- ---- another order

-- how many of these calls found no frame or no memory
abbrev pub lacking_among : List Timed → ℕ
lacking_among [] = 0
lacking_among (c ∷ cs) = if is_lacking c.call.reply then lacking_among cs + 1 else lacking_among cs

-- The calls of a history, so many, have an order, with some replies of those that wait at its end. So many found no frame or no memory:
-- none, where the terms rule that out.
pub record HasOther (terms : Terms) (r : Read) (counts : Counts) : Type 0 where
  pub calls : counts.calls ≡ length r.calls
  pub lacking : counts.lacking ≡ lacking_among r.calls
  pub strict : terms.is_strict ≡ true → counts.lacking ≡ 0
  pub replies : ℕ → Reply
  pub order : HasOrder (rule_of terms.any_place) (first_map r.declared) (completed replies r)

-- the text is that of such a history
pub record HasAnother (terms : Terms) (lines : List (List ℕ)) (counts : Counts) : Type 0 where
  pub read : Read
  pub history : IsHistory lines read
  pub other : HasOther terms read counts

-- In the order of the lines a reply may not be, or a copy, but that isn't certain.
pub record IsUndecided (terms : Terms) (lines : List (List ℕ)) : Type 0 where
  pub line : ℕ
  pub item : AuditItem
  pub due : Option Reply
  pub around : List MapLine
  pub is : IsIllegal terms lines line item due false around

abbrev pub is_undecided : Verdict → Bool
is_undecided (Undecided line item due) = true
is_undecided verdict = false

-- ---- the judgement

-- What is found in the order of the lines; or, where that is undecided, that they have another order.
abbrev pub IsJudgement : Terms → List (List ℕ) → Judgement → List MapLine → Type 0
IsJudgement terms lines (InOrder verdict) around = IsVerdict terms lines verdict around
IsJudgement terms lines (Reordered counts) around = IsUndecided terms lines × HasAnother terms lines counts × (around ≡ [])

-- the verdict as which it is told
abbrev pub verdict_of : Judgement → Verdict
verdict_of (InOrder verdict) = verdict
verdict_of (Reordered counts) = Legal counts.calls counts.lacking 0

-- ---- the end

-- the judgement was written
pub record Judges (terms : Terms) (input : List ℕ) (old new : Option (List ℕ)) (judgement : Judgement) : Type 0 where
  pub around : List MapLine
  pub is : IsJudgement terms (lines_of input) judgement around
  pub written : Appends old new (verdict_text (verdict_of judgement) around)

-- a front of it was
pub record Breaks (terms : Terms) (input : List ℕ) (old new : Option (List ℕ)) : Type 0 where
  pub judgement : Judgement
  pub around : List MapLine
  pub is : IsJudgement terms (lines_of input) judgement around
  pub written : AppendsFront old new (verdict_text (verdict_of judgement) around)

-- after a fault nothing was written, but after a failed write
abbrev pub Fails : Terms → List ℕ → Option (List ℕ) → Option (List ℕ) → AuditFault → Type 0
Fails terms input old new (Io WriteFailed) = Breaks terms input old new
Fails terms input old new (Io ReadFailed) = Keeps old new
Fails terms input old new f = IsAtFault terms (lines_of input) f × Keeps old new

abbrev pub AuditEnds : Terms → List ℕ → Option (List ℕ) → Option (List ℕ) → Result Judgement AuditFault → Type 0
AuditEnds terms input old new (Ok judgement) = Judges terms input old new judgement
AuditEnds terms input old new (Err f) = Fails terms input old new f
