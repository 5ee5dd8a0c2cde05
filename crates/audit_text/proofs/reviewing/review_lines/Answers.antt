use Rattle.std.proofs.Common.{◌+◌, arith, ◌∙◌, refl, Ok, Err}
use Rattle.std.proofs.lemmas.Result.{err_from_is_err_and}
use Rattle.audit.specs.Auditor.{plain_of}
use Rattle.audit_text.specs.Steps.{heard_of, terms_of}
use Rattle.audit_text.proofs.ReviewLemmas.{before_fault, before_last, before_next, before_unread, turns_by}
use Rattle.audit_text.proofs.TextLemmas.{lines_empty, some_left}
use Rattle.audit_text.proofs.reviewing.review_lines.Goals as goal

pub lines-init : goal.lines-init
lines-init g c = record {
  counted = c.requires.counted;
  few = c.requires.few;
  room = c.requires.room;
  terms = refl;
  before = λ lines d k. k;
}

pub turn-requires-clause-counted : goal.turn-requires-clause-counted
turn-requires-clause-counted g c = c.lines.invariant.counted

pub turn-requires-clause-room : goal.turn-requires-clause-room
turn-requires-clause-room g c = omega (arith, c.lines.invariant.few, c.lines.invariant.room)

pub returns-in_err-turn-clause-err : goal.returns-in_err-turn-clause-err
returns-in_err-turn-clause-err g c =
    let p = err_from_is_err_and c.from_residual.result c.from_residual.ensures.1 in
    rw p.1 (rw p.2 (λ lines d k. before_fault (Unit {0}) (terms_of c.args.hearing.now) lines _ d (heard_of c.lines.hearing) (heard_of c.turn.new.hearing)
    (plain_of c.lines.hearing.auditor) (plain_of c.turn.new.hearing.auditor) c.lines.found.items c.turn.new.found.items c.lines.said c.lines.line
    c.in_err-turn.field-0.0 (c.lines.invariant.before lines d k)
    (turns_by {T = Unit {0}} (terms_of c.lines.hearing) (terms_of c.args.hearing.now) (heard_of c.lines.hearing) (heard_of c.turn.new.hearing) (plain_of c.lines.hearing.auditor)
    (plain_of c.turn.new.hearing.auditor) c.lines.said c.lines.line c.lines.found.items c.turn.new.found.items
    (Err c.in_err-turn.field-0.0) c.lines.invariant.terms c.in_err-turn.ensures.turns)))

pub returns-then-is_empty-clause-ok : goal.returns-then-is_empty-clause-ok
returns-then-is_empty-clause-ok g c = λ lines d k. before_last (terms_of c.args.hearing.now) lines _ d (heard_of c.lines.hearing)
    (heard_of c.turn.new.hearing) (plain_of c.lines.hearing.auditor) (plain_of c.turn.new.hearing.auditor) c.lines.found.items
    c.turn.new.found.items c.lines.said c.lines.line _ (c.lines.invariant.before lines d k)
    (turns_by {T = Unit {0}} (terms_of c.lines.hearing) (terms_of c.args.hearing.now) (heard_of c.lines.hearing) (heard_of c.turn.new.hearing) (plain_of c.lines.hearing.auditor)
    (plain_of c.turn.new.hearing.auditor) c.lines.said c.lines.line c.lines.found.items c.turn.new.found.items
    (Ok tt) c.lines.invariant.terms c.in_ok-turn.ensures.turns)
    (lines_empty _ _ c.is_empty.ensures c.if-is_empty.true) refl

pub overflow_add-line : goal.overflow_add-line
overflow_add-line g c = omega (arith, c.lines.invariant.room, some_left _ _ c.is_empty.ensures c.if-is_empty.false)

pub returns-in_err-said-clause-err : goal.returns-in_err-said-clause-err
returns-in_err-said-clause-err g c =
    let p = err_from_is_err_and c.from_residual-in_err-said.result c.from_residual-in_err-said.ensures.1 in
    rw p.1 (rw p.2 (λ lines d k. before_unread (terms_of c.args.hearing.now) lines _ _ d (heard_of c.lines.hearing) (heard_of c.turn.new.hearing)
    (plain_of c.lines.hearing.auditor) (plain_of c.turn.new.hearing.auditor) c.lines.found.items c.turn.new.found.items c.lines.said c.lines.line
    (c.lines.line + 1) c.front_line.result.0.now c.in_err-said.field-0.0 (c.lines.invariant.before lines d k)
    (turns_by {T = Unit {0}} (terms_of c.lines.hearing) (terms_of c.args.hearing.now) (heard_of c.lines.hearing) (heard_of c.turn.new.hearing) (plain_of c.lines.hearing.auditor)
    (plain_of c.turn.new.hearing.auditor) c.lines.said c.lines.line c.lines.found.items c.turn.new.found.items
    (Ok tt) c.lines.invariant.terms c.in_ok-turn.ensures.turns)
    c.front_line.ensures.lines refl c.in_err-said.ensures.err))

pub lines-preserved : goal.lines-preserved
lines-preserved g c = record {
  counted = c.in_ok-turn.ensures.counted;
  few = omega (arith, c.in_ok-turn.ensures.few, c.lines.invariant.few);
  room = omega (arith, c.front_line.ensures.less, c.lines.invariant.room);
  terms = c.in_ok-turn.ensures.terms ∙ c.lines.invariant.terms;
  before = λ lines d k. before_next (terms_of c.args.hearing.now) lines _ _ d (heard_of c.lines.hearing) (heard_of c.turn.new.hearing)
      (plain_of c.lines.hearing.auditor) (plain_of c.turn.new.hearing.auditor) c.lines.found.items c.turn.new.found.items c.lines.said
      c.in_ok-said.said c.lines.line (c.lines.line + 1) c.front_line.result.0.now (c.lines.invariant.before lines d k)
      (turns_by {T = Unit {0}} (terms_of c.lines.hearing) (terms_of c.args.hearing.now) (heard_of c.lines.hearing) (heard_of c.turn.new.hearing) (plain_of c.lines.hearing.auditor)
      (plain_of c.turn.new.hearing.auditor) c.lines.said c.lines.line c.lines.found.items c.turn.new.found.items
      (Ok tt) c.lines.invariant.terms c.in_ok-turn.ensures.turns) c.front_line.ensures.lines c.in_ok-said.ensures.ok refl;
}
