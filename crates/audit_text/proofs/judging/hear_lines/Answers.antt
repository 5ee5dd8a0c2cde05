use Rattle.std.proofs.Common.{◌+◌, ap, arith, ◌∙◌, refl}
use Rattle.std.proofs.lemmas.Result.{err_from_is_err_and}
use Rattle.audit.specs.Auditor.{plain_of}
use Rattle.audit_text.specs.Heard.{lacking_by}
use Rattle.audit_text.specs.Steps.{heard_of, terms_of}
use Rattle.audit_text.specs.declared.allowing.Terms.{Terms}
use Rattle.audit_text.proofs.PlaceLemmas.{call_fault, call_last, call_next, hears_by, turn_fault_by, turn_verdict_by, turn_wants_by}
use Rattle.audit_text.proofs.TextLemmas.{lines_empty, some_left}
use Rattle.audit_text.proofs.judging.hear_lines.Goals as goal

pub lines-init : goal.lines-init
lines-init g c = record {
  counted = c.requires.counted;
  few = c.requires.few;
  room = c.requires.room;
  terms = refl;
  call = λ lines d k. k;
}

pub turn-requires-clause-counted : goal.turn-requires-clause-counted
turn-requires-clause-counted g c = c.lines.invariant.counted

pub turn-requires-clause-room : goal.turn-requires-clause-room
turn-requires-clause-room g c = omega (arith, c.lines.invariant.few, c.lines.invariant.room)

pub returns-in_err-verdict-clause-err : goal.returns-in_err-verdict-clause-err
returns-in_err-verdict-clause-err g c =
    let p = err_from_is_err_and c.from_residual.result c.from_residual.ensures.1 in
    rw p.1 (rw p.2 (λ lines d k. turn_fault_by (terms_of c.lines.hearing) (terms_of c.args.hearing.now) c.lines.invariant.terms
    lines _ d
    (heard_of c.lines.hearing) (heard_of c.turn.new.hearing) (plain_of c.lines.hearing.auditor)
    (plain_of c.turn.new.hearing.auditor) c.lines.said c.lines.line
    c.in_err-verdict.field-0.0 (c.lines.invariant.call lines d k) c.in_err-verdict.ensures.turns))

pub returns-in_err-verdict-clause-want : goal.returns-in_err-verdict-clause-want
returns-in_err-verdict-clause-want g c =
    let p = err_from_is_err_and c.from_residual.result c.from_residual.ensures.1 in
    rw p.1 (rw p.2 (λ is lines d k. turn_wants_by (terms_of c.lines.hearing) (terms_of c.args.hearing.now) c.lines.invariant.terms
    lines _ d (heard_of c.lines.hearing) (heard_of c.turn.new.hearing) (plain_of c.lines.hearing.auditor)
    (plain_of c.turn.new.hearing.auditor) c.lines.said c.lines.line c.in_err-verdict.field-0.0 (c.lines.invariant.call lines d k)
    c.in_err-verdict.ensures.turns cc))

pub returns-in-Some-clause-ok : goal.returns-in-Some-clause-ok
returns-in-Some-clause-ok g c = λ lines d k. turn_verdict_by (terms_of c.lines.hearing) (terms_of c.args.hearing.now)
    c.lines.invariant.terms
    lines _ d (heard_of c.lines.hearing) (heard_of c.turn.new.hearing) (plain_of c.lines.hearing.auditor)
    (plain_of c.turn.new.hearing.auditor) c.lines.said
    c.lines.line c.in_ok-verdict.field-0 c.in-Some.verdict (c.lines.invariant.call lines d k) c.in_ok-verdict.ensures.turns c.in-Some.is

pub returns-then-is_empty-clause-ok : goal.returns-then-is_empty-clause-ok
returns-then-is_empty-clause-ok g c = λ lines d k. call_last (terms_of c.args.hearing.now) lines _ d (heard_of c.lines.hearing)
    (heard_of c.turn.new.hearing) (plain_of c.lines.hearing.auditor) (plain_of c.turn.new.hearing.auditor) c.lines.said c.lines.line _ _
    (c.lines.invariant.call lines d k)
    (hears_by (terms_of c.lines.hearing) (terms_of c.args.hearing.now) c.lines.invariant.terms (heard_of c.lines.hearing)
    (heard_of c.turn.new.hearing) (plain_of c.lines.hearing.auditor)
    (plain_of c.turn.new.hearing.auditor) c.lines.said c.lines.line c.in_ok-verdict.field-0 c.in_ok-verdict.ensures.turns c.in_default.is)
    (lines_empty _ _ c.is_empty.ensures c.if-is_empty.true) refl
    (c.lacking_told.ensures ∙ ap (λ (t : Terms). lacking_by t (heard_of c.turn.new.hearing)) (c.in_ok-verdict.ensures.terms ∙ c.lines.invariant.terms))

pub overflow_add-line : goal.overflow_add-line
overflow_add-line g c = omega (arith, c.lines.invariant.room, some_left _ _ c.is_empty.ensures c.if-is_empty.false)

pub returns-in_err-said-clause-err : goal.returns-in_err-said-clause-err
returns-in_err-said-clause-err g c =
    let p = err_from_is_err_and c.from_residual-in_err-said.result c.from_residual-in_err-said.ensures.1 in
    rw p.1 (rw p.2 (λ lines d k. call_fault (terms_of c.args.hearing.now) lines _ _ d (heard_of c.lines.hearing) (heard_of c.turn.new.hearing)
    (plain_of c.lines.hearing.auditor) (plain_of c.turn.new.hearing.auditor) c.lines.said c.lines.line (c.lines.line + 1) c.front_line.result.0.now
    c.in_err-said.field-0.0 (c.lines.invariant.call lines d k)
    (hears_by (terms_of c.lines.hearing) (terms_of c.args.hearing.now) c.lines.invariant.terms (heard_of c.lines.hearing)
    (heard_of c.turn.new.hearing) (plain_of c.lines.hearing.auditor)
    (plain_of c.turn.new.hearing.auditor) c.lines.said c.lines.line c.in_ok-verdict.field-0 c.in_ok-verdict.ensures.turns c.in_default.is)
    c.front_line.ensures.lines refl c.in_err-said.ensures.err))

pub lines-preserved : goal.lines-preserved
lines-preserved g c = record {
  counted = c.in_ok-verdict.ensures.counted;
  few = omega (arith, c.in_ok-verdict.ensures.few, c.lines.invariant.few);
  room = omega (arith, c.front_line.ensures.less, c.lines.invariant.room);
  terms = c.in_ok-verdict.ensures.terms ∙ c.lines.invariant.terms;
  call = λ lines d k. call_next (terms_of c.args.hearing.now) lines _ _ d (heard_of c.lines.hearing) (heard_of c.turn.new.hearing)
      (plain_of c.lines.hearing.auditor) (plain_of c.turn.new.hearing.auditor) c.lines.said c.in_ok-said.said c.lines.line (c.lines.line + 1)
      c.front_line.result.0.now (c.lines.invariant.call lines d k)
      (hears_by (terms_of c.lines.hearing) (terms_of c.args.hearing.now) c.lines.invariant.terms (heard_of c.lines.hearing)
      (heard_of c.turn.new.hearing) (plain_of c.lines.hearing.auditor)
      (plain_of c.turn.new.hearing.auditor) c.lines.said c.lines.line c.in_ok-verdict.field-0 c.in_ok-verdict.ensures.turns c.in_default.is)
      c.front_line.ensures.lines c.in_ok-said.ensures.ok refl;
}
