use Rattle.std.proofs.Common.{◌≡◌, ℕ, ◌+◌, ◌^◌, ◌<◌, ◌≤◌, List, length}
use Rattle.trace_io.specs.Lines.{lines_of}
use Rattle.audit.specs.Auditor.{plain_of}
use Rattle.audit_text.specs.Heard.{Declared}
use Rattle.audit_text.specs.Steps.{IsCall, IsCounted, count_of, heard_of, terms_of}
use Rattle.audit_text.proofs.judging.hear_lines.Given as goal

-- the lines so far are heard
abbrev pub invariant-lines : goal.invariant-lines
invariant-lines g l = record {
  counted : IsCounted l.hearing;
  few : count_of l.hearing + 1 ≤ l.line;
  room : l.line + length l.rest < 2 ^ 64;
  terms : terms_of l.hearing ≡ terms_of l.fn.hearing;
  call : (lines : List (List ℕ)) (d : Declared)
      → IsCall (terms_of l.fn.hearing) lines d (heard_of l.fn.hearing) (plain_of l.fn.hearing.auditor) l.fn.first l.fn.number
      (lines_of l.fn.text)
      → IsCall (terms_of l.fn.hearing) lines d (heard_of l.hearing) (plain_of l.hearing.auditor) l.said l.line (lines_of l.rest);
}

abbrev pub decreases-lines : goal.decreases-lines
decreases-lines g l = length l.rest
